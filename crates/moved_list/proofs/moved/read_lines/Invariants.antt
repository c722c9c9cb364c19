use Rattle.std.specs.Str.Lines.{lines}
use Rattle.moved_list.proofs.Read.{ReadSoFar}
use Rattle.moved_list.proofs.moved.read_lines.Given as goal

abbrev pub invariant-loop-at : goal.invariant-loop-at
invariant-loop-at l = ReadSoFar (lines l.bytes) l.at l.found
