use Rattle.std.proofs.Common.{◌≡◌, ℕ, ◌<◌, true}
use Rattle.std.specs.Option.{option_map_or}
use Rattle.bulk_model.specs.PlanView.{job_at}
use Rattle.bulk_model.specs.Results.{kept_at}
use Rattle.case_plans.specs.Testing.{may_keep, may_be_kept}
use Rattle.case_plans.proofs.kept.fits_kept.Given as goal

abbrev pub invariant-loop-n : goal.invariant-loop-n
invariant-loop-n l = record {
  may : (k : ℕ) → k < l.n → may_be_kept l.plan l.kept k ≡ true;
  fields : (k : ℕ) → k < l.n → option_map_or (may_keep (job_at l.plan k)) (kept_at l.kept k) true ≡ true;
}
