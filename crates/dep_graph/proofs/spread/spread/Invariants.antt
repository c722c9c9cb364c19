use Rattle.std.proofs.Common.{◌≡◌, length, ◌-◌}
use Rattle.dep_graph.specs.Found.{leads_to}
use Rattle.dep_graph.proofs.Spreading.{SoFar}
use Rattle.dep_graph.proofs.spread.spread.Given as goal

abbrev pub invariant-loop-node : goal.invariant-loop-node
invariant-loop-node l = record {
  count : l.found.count ≡ length l.graph;
  so_far : SoFar (leads_to l.follow l.graph) (length l.graph) l.fn.found.nodes l.at l.found.nodes;
}

abbrev pub decreases-loop-node : goal.decreases-loop-node
decreases-loop-node l = length l.graph - l.at
