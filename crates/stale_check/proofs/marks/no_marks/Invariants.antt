use Rattle.std.proofs.Common.{◌≡◌, replicate, None}
use Rattle.stale_check.proofs.marks.no_marks.Given as goal

abbrev pub invariant-loop : goal.invariant-loop
invariant-loop l = l.known.items ≡ replicate l.counter None
