use Rattle.std.proofs.Common.{◌≡◌, length, ap, sym, subst, ◌∙◌}
use Rattle.std.specs.Prelude.{Result, Ok}
use Rattle.std.specs.List.{count_by}
use Rattle.std.proofs.lemmas.List.FromFn.{length-map-range_with_len}
use Rattle.bulk_model.specs.Order.{bucket}
use Rattle.bulk_model.specs.PlanFacts.{IsPlan}
use Rattle.dep_graph.specs.Graphs.{IsGraph}
use Rattle.dep_graph.specs.Turned.{dependents_at}
use Rattle.bucket_queue.specs.QueueView.{is_taken, first_mark}
use Rattle.bucket_queue.proofs.Buckets.{plan_graph, none_running}
use Rattle.bucket_queue.proofs.queue.Queue.new.Goals as goal

okay : {X E : Type 0} (a b : X) → ◌≡◌ {A = Result X E} (Ok a) (Ok b) → a ≡ b
okay a b e = cc

pub new-requires : goal.new-requires
new-requires c =
    subst IsGraph (ap (λ p. p.edges) (sym c.plan.view_is) ∙ sym (c.in_ok-copied.ensures ∙ c.as_slice.ensures))
    (plan_graph c.args.plan.now (subst IsPlan c.plan.view_is c.plan.invariant))

pub begun-requires-clause-dependents : goal.begun-requires-clause-dependents
begun-requires-clause-dependents c =
    ap length c.in_ok-dependents.ensures.value
    ∙ length-map-range_with_len (dependents_at c.in_ok-graph.graph) 0 (length c.in_ok-graph.graph)
    ∙ ap length (okay c.in_ok-graph.graph c.in_ok-copied.field-0 c.in_ok-graph.ensures ∙ c.in_ok-copied.ensures ∙ c.as_slice.ensures)

pub begun-requires-clause-buckets : goal.begun-requires-clause-buckets
begun-requires-clause-buckets c =
    ap length c.in_ok-buckets.ensures ∙ length-map-range_with_len (bucket c.args.plan.now) 0 (length c.args.plan.now.jobs)
    ∙ sym (ap (λ p. length p.edges) c.plan.view_is ∙ (subst IsPlan c.plan.view_is c.plan.invariant).edges)

pub begun-requires-clause-marks : goal.begun-requires-clause-marks
begun-requires-clause-marks c =
    ap length c.in_ok-marks.ensures ∙ length-map-range_with_len (first_mark c.args.plan.now c.args.kept.now) 0 (length c.args.plan.now.jobs)
    ∙ sym (ap (λ p. length p.edges) c.plan.view_is ∙ (subst IsPlan c.plan.view_is c.plan.invariant).edges)

pub begun-requires-clause-none_running : goal.begun-requires-clause-none_running
begun-requires-clause-none_running c =
    ap (count_by is_taken) c.in_ok-marks.ensures ∙ none_running c.args.plan.now c.args.kept.now
