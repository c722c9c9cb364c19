use Rattle.std.proofs.Common.{map, ap, ◌∙◌, ◌++◌}
use Rattle.std.specs.Prelude.{codes}
use Rattle.std.specs.List.{flat_map}
use Rattle.std.specs.String.{string_bytes}
use Rattle.bulk_model.specs.Lists.{listed, notice_line, stale_entry}
use Rattle.status_lists.proofs.Assembling.{lists_are}
use Rattle.status_lists.proofs.printing.run_text.Goals as goal

pub returns : goal.returns
returns c =
    lists_are c.args.plan.now c.args.results.now.statuses c.in_ok-told.told.items c.as_slice-fates.result.now c.in_ok-told.ensures c.as_slice-fates.ensures.value
    c.args.deleted.now c.args.notices.now _ _ _ _ _ _ _ _
    (c.in_ok-push_notices.ensures
    ∙ ap (λ x. x ++ flat_map notice_line c.as_slice.result.now) c.new-text.ensures.bytes
    ∙ ap (flat_map notice_line) c.as_slice.ensures)
    (c.in_ok-push_stale.ensures
    ∙ ap (λ x. string_bytes c.push_notices.new.text ++ listed (codes "deleted") (map stale_entry x)) c.as_slice-2.ensures)
    c.in_ok-push_part.ensures c.in_ok-push_part-2.ensures c.in_ok-push_part-3.ensures c.in_ok-push_part-4.ensures c.in_ok-push_part-5.ensures
    c.in_ok-push_total.ensures
