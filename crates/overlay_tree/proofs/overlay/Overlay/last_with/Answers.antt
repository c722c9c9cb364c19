use Rattle.std.proofs.Common.{◌≡◌, ◌+◌, ◌-◌, ◌∙◌, List, ℕ, [], ap, sym, subst, refl, true, false, get_or, arith}
use Rattle.std.specs.Prelude.{map, IsTrue}
use Rattle.std.specs.FinMap.{empty}
use Rattle.outside.specs.Contents.{Contents, files_below}
use Rattle.overlay_tree.proofs.Walks.{IsKept, search_found, search_more}
use Rattle.overlay_tree.proofs.overlay.Overlay.last_with.Goals as goal

pub returns-then-not-is_empty-clause-told : goal.returns-then-not-is_empty-clause-told
returns-then-not-is_empty-clause-told g c =
    let contents : List Contents = map g.T.Tree.content c.args.self.now in
    let names : List (List ℕ) = c.in_ok-names_at.field-0 in
    search_found g.T.Tree.tells c.args.folder.now contents c.loop-at.at names (λ none. let no : false ≡ true = c.if-not-is_empty.ensures.1 none in cc)
    (λ t. c.in_ok-names_at.ensures.told t ∙ ap (λ cs. files_below c.args.folder.now (get_or cs c.loop-at.at empty)) c.loop-at.invariant.0.content) c.loop-at.invariant.1

pub loop-at-preserved : goal.loop-at-preserved
loop-at-preserved g c =
    let contents : List Contents = map g.T.Tree.content c.args.self.now in
    let names : List (List ℕ) = c.in_ok-names_at.field-0 in (
      record { content = c.in_ok-names_at.ensures.same ∙ c.loop-at.invariant.0.content; count = c.in_ok-names_at.ensures.cause.kept refl ∙ c.loop-at.invariant.0.count },
      search_more g.T.Tree.tells c.args.folder.now contents c.loop-at.at (c.loop-at.at - 1) names (omega arith) (c.if-not-is_empty.ensures.0 refl)
          (λ t. c.in_ok-names_at.ensures.told t ∙ ap (λ cs. files_below c.args.folder.now (get_or cs c.loop-at.at empty)) c.loop-at.invariant.0.content) c.loop-at.invariant.1,
    )
