use Rattle.std.proofs.Common.{take}
use Rattle.stale_check.specs.Placing.{AreNumbers}
use Rattle.stale_check.proofs.numbering.number_nodes.Given as goal

abbrev pub invariant-loop-at : goal.invariant-loop-at
invariant-loop-at l = AreNumbers (take l.at l.nodes) l.numbers
