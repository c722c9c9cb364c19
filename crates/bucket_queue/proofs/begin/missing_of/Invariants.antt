use Rattle.std.proofs.Common.{◌≡◌, take}
use Rattle.std.specs.Prelude.{map}
use Rattle.bulk_model.specs.declared.plan.Edge.{Edge}
use Rattle.bucket_queue.specs.Inner.{count_missing}
use Rattle.bucket_queue.proofs.begin.missing_of.Given as goal

abbrev pub invariant-loop-edge : goal.invariant-loop-edge
invariant-loop-edge l =
    l.missing ≡ count_missing l.marks (map (λ (edge : Edge). edge.to) (take l.edge-index l.edges))
