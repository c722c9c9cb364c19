use Rattle.std.proofs.Common.{◌≡◌, ◌+◌, ◌<◌, ◌∙◌, List, ℕ, ap, sym, subst, refl, length, get_or, arith}
use Rattle.std.specs.Prelude.{◌≤◌, map, IfSome, vec_len}
use Rattle.std.specs.Option.{option_map}
use Rattle.std.specs.FinMap.{empty}
use Rattle.std.proofs.lemmas.List.{length-map}
use Rattle.outside.specs.Contents.{Contents, first_bytes}
use Rattle.overlay_tree.proofs.Walks.{JoinedSoFar, joined_none, joined_some}
use Rattle.overlay_tree.proofs.overlay.Overlay.joined_bytes.Goals as goal
use Rattle.overlay_tree.proofs.overlay.Overlay.joined_bytes.Goals.{in-Some+in_ok-put_behind, in_default}

pub loop-at-preserved : goal.loop-at-preserved
loop-at-preserved g c =
    let contents : List Contents = map g.T.Tree.content c.args.self.now in
    let file : List ℕ = c.args.file.now in
    let at : ℕ = c.loop-at.at in
    let low : at < length contents = omega (arith, c.len-at-end.ensures, length-map c.args.self.now g.T.Tree.content) in
    let same = ap (λ cs. first_bytes c.args.most file (get_or cs at empty)) c.loop-at.invariant.0.content in (
      record { content = c.in_ok-piece.ensures.same ∙ c.loop-at.invariant.0.content; count = c.in_ok-piece.ensures.cause.kept refl ∙ c.loop-at.invariant.0.count },
      elim c.match-branch-2.branch [
        | in-Some+in_ok-put_behind w ↦
            subst (λ f. JoinedSoFar g.T.Tree.tells c.args.most file contents (at + 1) (option_map (λ b. b.items) f)) (sym w.found-is)
            (joined_some g.T.Tree.tells c.args.most file contents at (option_map (λ b. b.items) c.loop-at.found) w.in-Some.piece.items w.in_ok-put_behind.field-0.items low
            (λ t. sym (ap (option_map (λ b. b.items)) w.in-Some.is) ∙ c.in_ok-piece.ensures.told t ∙ same) w.in_ok-put_behind.ensures.bytes c.loop-at.invariant.1)
        | in_default w ↦
            subst (λ f. JoinedSoFar g.T.Tree.tells c.args.most file contents (at + 1) (option_map (λ b. b.items) f)) (sym w.found-is)
            (joined_none g.T.Tree.tells c.args.most file contents at (option_map (λ b. b.items) c.loop-at.found) low
            (λ t. sym (ap (option_map (λ b. b.items)) w.in_default.is) ∙ c.in_ok-piece.ensures.told t ∙ same) c.loop-at.invariant.1)
      ],
      elim c.match-branch-2.branch [
        | in-Some+in_ok-put_behind w ↦ subst (λ f. IfSome f (λ bytes. vec_len bytes ≤ c.args.most)) (sym w.found-is) w.in_ok-put_behind.ensures.within
        | in_default w ↦ subst (λ f. IfSome f (λ bytes. vec_len bytes ≤ c.args.most)) (sym w.found-is) c.loop-at.invariant.2
      ],
    )
