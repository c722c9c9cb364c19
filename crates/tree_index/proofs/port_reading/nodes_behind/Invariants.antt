use Rattle.tree_index.proofs.NodesSoFar.{NodesSoFar}
use Rattle.tree_index.proofs.port_reading.nodes_behind.Given as goal

abbrev pub invariant-loop-flavor : goal.invariant-loop-flavor
invariant-loop-flavor l = NodesSoFar l.try_broken l.origin l.vars l.options l.fn.default l.others l.nodes l.flavor-index
