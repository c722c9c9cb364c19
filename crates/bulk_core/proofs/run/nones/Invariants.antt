use Rattle.std.proofs.Common.{◌≡◌, None, replicate}
use Rattle.bulk_core.proofs.run.nones.Given as goal

abbrev pub invariant-loop : goal.invariant-loop
invariant-loop l = l.outcomes.items ≡ replicate l.counter None
