use Rattle.std.proofs.Common.{◌≡◌, ◌<◌, length, get_or, refl, ap, sym, subst, ◌∙◌, arith}
use Rattle.std.specs.List.{All}
use Rattle.std.proofs.lemmas.List.{get_or_read}
use Rattle.bulk_model.specs.declared.plan.Edge.{Edge}
use Rattle.bulk_model.specs.declared.results.Status.TheVariants.{Skipped}
use Rattle.bulk_model.specs.Fit.{status_in}
use Rattle.bulk_model.specs.PlanFacts.{IsPlan}
use Rattle.bulk_model.specs.PlanView.{edges_from}
use Rattle.bulk_model.proofs.PlanEdges.{edges_within, edges_read}
use Rattle.dep_graph.specs.Order.{IsInOrder, IsDependencyOrder}
use Rattle.status_lists.proofs.Telling.{so_far_none, next_below, told_turn, so_far_all}
use Rattle.status_lists.proofs.fates.fates.Goals as goal

pub loop-n-init : goal.loop-n-init
loop-n-init c =
    so_far_none c.args.plan.now c.args.results.now.statuses c.as_slice-n-items.result.now c.in_ok-fates.fates.items
    (c.in_ok-fates.ensures ∙ ap length c.as_slice-statuses.ensures ∙ c.requires.places)

pub told-requires : goal.told-requires
told-requires c =
    let plan : IsPlan c.args.plan.now = subst IsPlan c.plan.view_is c.plan.invariant in
    let order : IsInOrder c.args.plan.now.edges c.as_slice-n-items.result.now = subst (IsInOrder c.args.plan.now.edges) (sym c.as_slice-n-items.ensures) c.in_ok-order.ensures.in_order in
    let below : get_or c.as_slice-n-items.result.now c.loop-n.n-index 0 < length c.args.plan.now.jobs =
    next_below c.args.plan.now c.args.results.now.statuses c.as_slice-n-items.result.now plan order c.loop-n.n-index c.loop-n-test.true in
    let edges : c.as_slice-edges.result.now ≡ edges_from c.args.plan.now (get_or c.as_slice-n-items.result.now c.loop-n.n-index 0) =
    c.as_slice-edges.ensures
    ∙ edges_read c.args.plan.now plan c.as_slice.result.now c.index-as_slice-at.result (get_or c.as_slice-n-items.result.now c.loop-n.n-index 0) below
    (c.as_slice.ensures ∙ ap (λ p. p.edges) c.plan.view_is) c.index-as_slice-at.is in
    let size : length c.as_slice-in-loop-n.result.now ≡ length c.args.plan.now.jobs = ap length c.as_slice-in-loop-n.ensures.value ∙ c.loop-n.invariant.size in
    subst (λ es. All (λ (e : Edge). e.to < length c.as_slice-in-loop-n.result.now) es) (sym edges)
    (subst (λ count. All (λ (e : Edge). e.to < count) (edges_from c.args.plan.now (get_or c.as_slice-n-items.result.now c.loop-n.n-index 0))) (sym size)
    (edges_within c.args.plan.now plan (get_or c.as_slice-n-items.result.now c.loop-n.n-index 0) below))

pub loop-n-preserved : goal.loop-n-preserved
loop-n-preserved c =
    let plan : IsPlan c.args.plan.now = subst IsPlan c.plan.view_is c.plan.invariant in
    let order : IsInOrder c.args.plan.now.edges c.as_slice-n-items.result.now = subst (IsInOrder c.args.plan.now.edges) (sym c.as_slice-n-items.ensures) c.in_ok-order.ensures.in_order in
    let below : get_or c.as_slice-n-items.result.now c.loop-n.n-index 0 < length c.args.plan.now.jobs =
    next_below c.args.plan.now c.args.results.now.statuses c.as_slice-n-items.result.now plan order c.loop-n.n-index c.loop-n-test.true in
    let edges : c.as_slice-edges.result.now ≡ edges_from c.args.plan.now (get_or c.as_slice-n-items.result.now c.loop-n.n-index 0) =
    c.as_slice-edges.ensures
    ∙ edges_read c.args.plan.now plan c.as_slice.result.now c.index-as_slice-at.result (get_or c.as_slice-n-items.result.now c.loop-n.n-index 0) below
    (c.as_slice.ensures ∙ ap (λ p. p.edges) c.plan.view_is) c.index-as_slice-at.is in
    let size : length c.as_slice-statuses.result.now ≡ length c.args.plan.now.jobs = ap length c.as_slice-statuses.ensures ∙ c.requires.places in
    told_turn c.args.plan.now plan c.args.results.now.statuses c.requires c.as_slice-n-items.result.now order c.loop-n.n-index c.loop-n-test.true
    c.loop-n.fates.items c.as_slice-in-loop-n.result.now _ c.index-statuses-at.result c.told.result c.as_slice-edges.result.now
    c.loop-n.invariant c.as_slice-in-loop-n.ensures.value
    (get_or_read c.as_slice-statuses.result.now (get_or c.as_slice-n-items.result.now c.loop-n.n-index 0) c.index-statuses-at.result (omega arith) c.index-statuses-at.is Skipped
    ∙ ap (λ s. status_in s (get_or c.as_slice-n-items.result.now c.loop-n.n-index 0)) c.as_slice-statuses.ensures)
    edges c.told.ensures refl

pub returns : goal.returns
returns c =
    so_far_all c.args.plan.now (subst IsPlan c.plan.view_is c.plan.invariant) c.args.results.now.statuses c.requires
    c.as_slice-n-items.result.now
    (subst (IsDependencyOrder c.args.plan.now.edges) (sym c.as_slice-n-items.ensures) c.in_ok-order.ensures)
    c.loop-n.n-index c.loop-n-test.false c.loop-n.fates.items c.loop-n.invariant
