use Rattle.std.proofs.Common.{◌<◌, length, map, ap, sym, subst, ◌∙◌, ◌++◌}
use Rattle.std.specs.Prelude.{codes}
use Rattle.std.specs.List.{All, flat_map}
use Rattle.std.specs.String.{string_bytes}
use Rattle.bulk_model.specs.DryLists.{dry_statuses}
use Rattle.bulk_model.specs.Lists.{listed, notice_line, stale_entry}
use Rattle.status_lists.proofs.Assembling.{dry_lists_are}
use Rattle.status_lists.proofs.Ordering.{order_nodes}
use Rattle.status_lists.proofs.printing.dry_text.Goals as goal

pub push_named-requires : goal.push_named-requires
push_named-requires c =
    subst (All (λ n. n < length c.args.plan.now.jobs)) (sym (c.as_slice-3.ensures ∙ c.in_ok-order.ensures))
    (order_nodes c.args.plan.now c.args.kept.now (dry_statuses c.args.plan.now c.args.kept.now))

pub returns : goal.returns
returns c =
    dry_lists_are c.args.plan.now c.args.kept.now c.in_ok-told.told.items c.as_slice-fates.result.now c.in_ok-told.ensures c.as_slice-fates.ensures.value
    c.args.deleted.now c.args.notices.now c.as_slice-3.result.now _ _ _ _ _ _ _
    (c.as_slice-3.ensures ∙ c.in_ok-order.ensures)
    (c.in_ok-push_notices.ensures
    ∙ ap (λ x. x ++ flat_map notice_line c.as_slice.result.now) c.new-text.ensures.bytes
    ∙ ap (flat_map notice_line) c.as_slice.ensures)
    (c.in_ok-push_stale.ensures
    ∙ ap (λ x. string_bytes c.push_notices.new.text ++ listed (codes "would delete") (map stale_entry x)) c.as_slice-2.ensures)
    c.in_ok-push_part.ensures c.in_ok-push_named.ensures c.in_ok-push_part-2.ensures c.in_ok-push_part-3.ensures
    c.in_ok-push_total.ensures
