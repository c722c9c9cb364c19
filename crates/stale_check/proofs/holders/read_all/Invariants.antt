use Rattle.stale_check.specs.Recording.{AreMarks, AreRead}
use Rattle.stale_check.proofs.holders.read_all.Given as goal

abbrev pub invariant-loop-at : goal.invariant-loop-at
invariant-loop-at l = record {
  read : AreRead l.members l.reasons l.at l.dependents.items l.lost.items;
  known : AreMarks l.members l.known.items;
}
