use Rattle.bulk_base.proofs.LinesSoFar.{LinesSoFar}
use Rattle.bulk_base.proofs.line.lines.Given as goal

abbrev pub invariant-loop-at : goal.invariant-loop-at
invariant-loop-at l = LinesSoFar l.bytes l.found l.start l.at
