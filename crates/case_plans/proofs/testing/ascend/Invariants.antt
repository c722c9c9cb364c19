use Rattle.std.proofs.Common.{◌≡◌, ℕ, ◌+◌, ◌<◌, get_or}
use Rattle.std.specs.Cmp.Lexicographic.{slice_cmp}
use Rattle.std.specs.Ordering.{nat_cmp}
use Rattle.std.specs.declared.cmp.Ordering.TheVariants.{Less}
use Rattle.bulk_model.specs.PlanView.{no_job}
use Rattle.case_plans.proofs.testing.ascend.Given as goal

abbrev pub invariant-loop-n : goal.invariant-loop-n
invariant-loop-n l = (k : ℕ) → k + 1 < l.n → slice_cmp nat_cmp (get_or l.jobs k no_job).name (get_or l.jobs (k + 1) no_job).name ≡ Less
