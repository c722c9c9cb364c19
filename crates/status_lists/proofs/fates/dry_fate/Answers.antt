use Rattle.std.proofs.Common.{◌≡◌, ◌<◌, length, ap, sym, subst, ◌∙◌}
use Rattle.std.specs.List.{All}
use Rattle.bulk_model.specs.declared.plan.Edge.{Edge}
use Rattle.bulk_model.specs.PlanFacts.{IsPlan}
use Rattle.bulk_model.specs.PlanView.{edges_from}
use Rattle.bulk_model.proofs.PlanEdges.{edges_within, edges_read}
use Rattle.status_lists.proofs.fates.dry_fate.Goals as goal

pub cause-requires : goal.cause-requires
cause-requires c =
    let plan : IsPlan c.args.plan.now = subst IsPlan c.plan.view_is c.plan.invariant in
    let edges : c.as_slice-4.result.now ≡ edges_from c.args.plan.now c.args.n =
    c.as_slice-4.ensures
    ∙ edges_read c.args.plan.now plan c.as_slice-3.result.now c.index-as_slice-n-3.result c.args.n c.requires.node
    (c.as_slice-3.ensures ∙ ap (λ p. p.edges) c.plan.view_is) c.index-as_slice-n-3.is in
    subst (λ es. All (λ (e : Edge). e.to < length c.args.fates.now) es) (sym edges)
    (subst (λ count. All (λ (e : Edge). e.to < count) (edges_from c.args.plan.now c.args.n)) (sym c.requires.size)
    (edges_within c.args.plan.now plan c.args.n c.requires.node))
