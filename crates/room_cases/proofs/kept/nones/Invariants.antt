use Rattle.std.proofs.Common.{◌≡◌, None, replicate}
use Rattle.room_cases.proofs.kept.nones.Given as goal

abbrev pub invariant-loop : goal.invariant-loop
invariant-loop l = l.packages.items ≡ replicate l.counter None
