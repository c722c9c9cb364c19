use Rattle.status_lists.proofs.Telling.{SoFar}
use Rattle.status_lists.proofs.fates.fates.Given as goal

abbrev pub invariant-loop-n : goal.invariant-loop-n
invariant-loop-n l = SoFar l.plan l.results.statuses l.n-items l.n-index l.fates.items
