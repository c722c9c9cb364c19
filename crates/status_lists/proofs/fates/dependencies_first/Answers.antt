use Rattle.std.proofs.Common.{◌≡◌, ap, sym, subst, ◌∙◌}
use Rattle.std.specs.Prelude.{Result, Ok}
use Rattle.bulk_model.specs.PlanFacts.{IsPlan}
use Rattle.dep_graph.specs.Graphs.{IsGraph}
use Rattle.bucket_queue.proofs.Buckets.{plan_graph}
use Rattle.status_lists.proofs.Telling.{whole_order}
use Rattle.status_lists.proofs.fates.dependencies_first.Goals as goal

okay : {X E : Type 0} (a b : X) → ◌≡◌ {A = Result X E} (Ok a) (Ok b) → a ≡ b
okay a b e = cc

pub new-requires : goal.new-requires
new-requires c =
    subst IsGraph (ap (λ p. p.edges) (sym c.plan.view_is) ∙ sym (c.in_ok-copied.ensures ∙ c.as_slice.ensures))
    (plan_graph c.args.plan.now (subst IsPlan c.plan.view_is c.plan.invariant))

pub returns : goal.returns
returns c =
    whole_order c.args.plan.now (subst IsPlan c.plan.view_is c.plan.invariant) c.in_ok-graph.graph
    (okay c.in_ok-graph.graph c.in_ok-copied.field-0 c.in_ok-graph.ensures ∙ c.in_ok-copied.ensures ∙ c.as_slice.ensures ∙ ap (λ p. p.edges) c.plan.view_is)
    _ c.in_ok-loopless_part.ensures
