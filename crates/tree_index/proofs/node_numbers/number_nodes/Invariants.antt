use Rattle.std.proofs.Common.{take}
use Rattle.tree_index.specs.Numbers.{IsNumbering}
use Rattle.tree_index.proofs.node_numbers.number_nodes.Given as goal

abbrev pub invariant-loop-at : goal.invariant-loop-at
invariant-loop-at l = IsNumbering (take l.at l.nodes) l.numbers
