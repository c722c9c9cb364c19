use Rattle.std.proofs.Common.{length, refl, ap, sym, subst, ◌∙◌}
use Rattle.bulk_model.specs.DryLists.{bakes_well, dry_statuses}
use Rattle.bulk_model.specs.PlanFacts.{IsPlan}
use Rattle.dep_graph.specs.Order.{IsInOrder, IsDependencyOrder}
use Rattle.model_laws.proofs.Fitted.{results_fit}
use Rattle.status_lists.proofs.Telling.{so_far_none, dry_turn, so_far_all}
use Rattle.status_lists.proofs.fates.dry_fates.Goals as goal

pub loop-n-init : goal.loop-n-init
loop-n-init c =
    so_far_none c.args.plan.now (dry_statuses c.args.plan.now c.args.kept.now) c.as_slice-n-items.result.now c.in_ok-fates.fates.items
    (c.in_ok-fates.ensures ∙ c.len.ensures ∙ ap (λ p. length p.jobs) c.plan.view_is)

pub loop-n-preserved : goal.loop-n-preserved
loop-n-preserved c =
    dry_turn c.args.plan.now (subst IsPlan c.plan.view_is c.plan.invariant) c.args.kept.now c.as_slice-n-items.result.now
    (subst (IsInOrder c.args.plan.now.edges) (sym c.as_slice-n-items.ensures) c.in_ok-order.ensures.in_order)
    c.loop-n.n-index c.loop-n-test.true c.loop-n.fates.items c.as_slice.result.now _ c.dry_fate.result
    c.loop-n.invariant c.as_slice.ensures.value c.dry_fate.ensures refl

pub returns : goal.returns
returns c =
    let plan : IsPlan c.args.plan.now = subst IsPlan c.plan.view_is c.plan.invariant in
    so_far_all c.args.plan.now plan (dry_statuses c.args.plan.now c.args.kept.now)
    (results_fit (bakes_well c.args.plan.now) c.args.plan.now c.args.kept.now plan)
    c.as_slice-n-items.result.now
    (subst (IsDependencyOrder c.args.plan.now.edges) (sym c.as_slice-n-items.ensures) c.in_ok-order.ensures)
    c.loop-n.n-index c.loop-n-test.false c.loop-n.fates.items c.loop-n.invariant
