use Rattle.conf_file.specs.Pattern.{FitsNowhereBefore}
use Rattle.conf_file.proofs.pattern.strip_first.Given as goal

abbrev pub invariant-loop-at : goal.invariant-loop-at
invariant-loop-at l = FitsNowhereBefore l.piece l.name l.at
