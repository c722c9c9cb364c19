use Rattle.std.specs.Str.Lines.{lines}
use Rattle.origin_flavor.proofs.Listed.{ListedSoFar}
use Rattle.origin_flavor.proofs.list_file.read_list.Given as goal

abbrev pub invariant-loop-at : goal.invariant-loop-at
invariant-loop-at l = ListedSoFar (lines l.bytes) l.at l.found
