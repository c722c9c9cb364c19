use Rattle.std.proofs.Common.{◌≡◌, take, map}
use Rattle.plan_maker.specs.Needed.{needs_of}
use Rattle.plan_maker.proofs.needed.needs.Given as goal

abbrev pub invariant-loop-node : goal.invariant-loop-node
invariant-loop-node l = l.lists ≡ map needs_of (take l.node-index l.node-items)
