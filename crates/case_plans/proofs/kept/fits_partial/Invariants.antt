use Rattle.std.proofs.Common.{◌≡◌, ℕ, ◌<◌, true}
use Rattle.case_plans.specs.Testing.{may_be_given}
use Rattle.case_plans.proofs.kept.fits_partial.Given as goal

abbrev pub invariant-loop-n : goal.invariant-loop-n
invariant-loop-n l = (k : ℕ) → k < l.n → may_be_given l.plan l.kept l.outcomes k ≡ true
