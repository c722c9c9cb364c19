use Rattle.std.proofs.Common.{◌≡◌, drop}
use Rattle.conf_file.specs.Pattern.{begins}
use Rattle.conf_file.proofs.pattern.begins.Given as goal

abbrev pub invariant-loop-at : goal.invariant-loop-at
invariant-loop-at l = begins (drop l.at l.piece) (drop l.at l.name) ≡ begins l.piece l.name
