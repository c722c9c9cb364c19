use Rattle.std.proofs.Common.{◌≡◌, ℕ, ◌<◌, true, [], get_or, None}
use Rattle.std.specs.Prelude.{is_some}
use Rattle.case_plans.proofs.testing.stand_alone.Given as goal

abbrev pub invariant-loop-n : goal.invariant-loop-n
invariant-loop-n l = (k : ℕ) → k < l.n → is_some (get_or l.ignored k None) ≡ true → get_or l.lists k [] ≡ []
