use Rattle.bulk_base.proofs.WordsSoFar.{WordsSoFar}
use Rattle.bulk_base.proofs.word.words.Given as goal

abbrev pub invariant-loop-at : goal.invariant-loop-at
invariant-loop-at l = WordsSoFar l.text l.found l.start l.at
