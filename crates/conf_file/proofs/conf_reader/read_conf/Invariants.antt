use Rattle.std.specs.Str.Lines.{lines}
use Rattle.conf_file.proofs.ReadSoFar.{ReadSoFar}
use Rattle.conf_file.proofs.conf_reader.read_conf.Given as goal

abbrev pub invariant-loop-at : goal.invariant-loop-at
invariant-loop-at l = ReadSoFar (lines l.bytes) l.at l.conf
