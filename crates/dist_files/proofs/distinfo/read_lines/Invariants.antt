use Rattle.std.specs.Str.Lines.{lines}
use Rattle.dist_files.proofs.Read.{ReadSoFar}
use Rattle.dist_files.proofs.distinfo.read_lines.Given as goal

abbrev pub invariant-loop-at : goal.invariant-loop-at
invariant-loop-at l = ReadSoFar (lines l.bytes) l.at l.stated
