use Rattle.std.proofs.Common.{true, length, replicate, ap, subst, ◌∙◌}
use Rattle.bulk_model.specs.DryLists.{dry_statuses}
use Rattle.bulk_model.specs.PlanFacts.{IsPlan}
use Rattle.bucket_queue.proofs.Telling.{dry_results, dry_tell}
use Rattle.bucket_queue.proofs.orders.dry_order.Goals as goal

pub returns : goal.returns
returns c =
    let is : IsPlan c.args.plan.now = subst IsPlan c.plan.view_is c.plan.invariant in
    c.taken.ensures (dry_statuses c.args.plan.now c.args.kept.now) (dry_results c.args.plan.now c.args.kept.now)
    (dry_tell c.args.plan.now is c.args.kept.now _
    (c.as_slice.ensures.value ∙ c.in_ok-well.ensures
    ∙ ap (λ k. replicate k true) (c.len.ensures ∙ ap (λ p. length p.jobs) c.plan.view_is)))
