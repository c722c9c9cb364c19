use Rattle.std.proofs.Common.{◌≡◌, length, take}
use Rattle.std.specs.Prelude.{map}
use Rattle.dep_graph.proofs.order.edge_counts.Given as goal

abbrev pub invariant-loop-edges : goal.invariant-loop-edges
invariant-loop-edges l = l.counts.items ≡ map (λ edges. length edges) (take l.edges-index l.graph)
