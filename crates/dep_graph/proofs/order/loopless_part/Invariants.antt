use Rattle.std.proofs.Common.{[], length, ◌-◌}
use Rattle.dep_graph.specs.Waiting.{IsWaiting}
use Rattle.dep_graph.proofs.order.loopless_part.Given as goal

abbrev pub invariant-loop-node : goal.invariant-loop-node
invariant-loop-node l = IsWaiting l.graph l.at [] l.waiting.open.items l.waiting.order.items

abbrev pub decreases-loop-node : goal.decreases-loop-node
decreases-loop-node l = length l.graph - l.at
