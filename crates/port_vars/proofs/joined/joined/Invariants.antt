use Rattle.std.proofs.Common.{◌≡◌, ◌+◌, drop}
use Rattle.std.specs.Str.Lines.{lines}
use Rattle.port_vars.specs.Joined.{joined, whole}
use Rattle.port_vars.proofs.joined.joined.Given as goal

abbrev pub invariant-loop-at : goal.invariant-loop-at
invariant-loop-at l = whole l.found l.begun (l.at + 1) (drop l.at (lines l.bytes)) ≡ joined l.bytes
