use Rattle.moved_list.proofs.Walked.{WalkedSoFar}
use Rattle.moved_list.proofs.walk.follow.Given as goal

abbrev pub invariant-loop : goal.invariant-loop
invariant-loop l = WalkedSoFar l.names l.moved l.fn.name l.counter l.chain l.current
