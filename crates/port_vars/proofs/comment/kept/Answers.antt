use Rattle.std.proofs.Common.{◌≡◌, ◌∙◌, ◌+◌, ◌++◌, ◌∷◌, [], true, ap, sym, arith, drop}
use Rattle.bulk_base.proofs.TextTests.{is_text-from_IsText}
use Rattle.port_vars.specs.Joined.{ends_in_backslash, without_last}
use Rattle.port_vars.specs.Comment.{kept}
use Rattle.port_vars.proofs.TextParts.{IsText-append}
use Rattle.port_vars.proofs.KeptSoFar.{kept_goes_on, kept_is_text}
use Rattle.port_vars.proofs.comment.kept.Goals as goal

pub of-requires : goal.of-requires
of-requires c =
    let piece = rw (← c.bytes-piece.ensures.same) at c.bytes-piece.ensures.form in
    is_text-from_IsText _ (rw (c.as_slice.ensures.value, c.in_ok-extend_from_slice-2.ensures.items) (IsText-append _ _ c.loop-at.invariant.form piece))

pub loop-at-preserved : goal.loop-at-preserved
loop-at-preserved c =
    let item = c.index-pieces-at.result in
    let ends : ends_in_backslash item ≡ true = ap ends_in_backslash (sym c.bytes-piece.ensures.same) ∙ sym c.ends_in_backslash.ensures ∙ c.if-ends_in_backslash.true in
    let grown : c.push.new.self.items ≡ (c.loop-at.kept.items ++ without_last item) ++ 35 ∷ [] =
    c.in_ok-push.ensures.items ∙ ap (λ x. x ++ 35 ∷ []) (c.in_ok-extend_from_slice.ensures.items ∙ ap (λ x. c.loop-at.kept.items ++ x) (c.without_last.ensures ∙ ap without_last c.bytes-piece.ensures.same)) in
    record {
      text = ap (λ x. x ++ kept (drop (c.loop-at.at + 1) c.as_slice-pieces.result.now)) grown ∙ kept_goes_on c.loop-at.kept.items c.as_slice-pieces.result.now c.loop-at.at item (omega arith) c.index-pieces-at.is ends ∙ c.loop-at.invariant.text;
      form = rw grown (kept_is_text c.loop-at.kept.items item c.loop-at.invariant.form c.bytes-piece.ensures.form ends);
    }

pub of-requires-2 : goal.of-requires-2
of-requires-2 c = is_text-from_IsText _ (rw c.as_slice-2.ensures.value c.loop-at.invariant.form)
