use Rattle.std.proofs.Common.{◌∙◌, ap}
use Rattle.std.proofs.lemmas.List.FromFn.{length-map-range_with_len}
use Rattle.bulk_model.specs.DryLists.{bakes_well, dry_statuses}
use Rattle.bulk_model.specs.PlanView.{count}
use Rattle.bulk_model.specs.Results.{status_at}
use Rattle.status_lists.specs.Fates.{exit_of}
use Rattle.status_lists.proofs.Statuses.{exit_is}
use Rattle.status_lists.proofs.exit.dry_status.Goals as goal

pub returns : goal.returns
returns c =
    c.fates_status.ensures ∙ ap exit_of c.as_slice.ensures.value
    ∙ exit_is c.args.plan.now (dry_statuses c.args.plan.now c.args.kept.now) c.in_ok-fates.fates.items
    (length-map-range_with_len (status_at (bakes_well c.args.plan.now) c.args.plan.now c.args.kept.now) 0 (count c.args.plan.now))
    c.in_ok-fates.ensures
