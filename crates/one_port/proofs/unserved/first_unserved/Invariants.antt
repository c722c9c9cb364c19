use Rattle.std.proofs.Common.{◌≡◌, take}
use Rattle.std.specs.Prelude.{None, find}
use Rattle.one_port.specs.NodeJobs.{nodes_at}
use Rattle.one_port.specs.Unserved.{is_unserved}
use Rattle.one_port.proofs.unserved.first_unserved.Given as goal

abbrev pub invariant-loop-number : goal.invariant-loop-number
invariant-loop-number l = find is_unserved (nodes_at l.nodes (take l.number-index l.numbers)) ≡ None
