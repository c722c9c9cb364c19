-- Runs that keep packages beside runs that keep none.
use Rattle.std.specs.Prelude.{◌≡◌, ℕ, false, ◌<◌, List, map, Some, None, Contains}
use Rattle.std.specs.List.{filter_map}
use Rattle.bulk_model.specs.declared.outcome.Outcome.TheVariants.{Built as MadePackage}
use Rattle.bulk_model.specs.declared.plan.Kept.{Kept as KeptPackages}
use Rattle.bulk_model.specs.declared.results.Status.{Status}
use Rattle.bulk_model.specs.declared.results.Status.TheVariants.{Kept, Built, Failed, Ignored, Skipped}
use Rattle.bulk_model.specs.Bake.{Runs, bake}
use Rattle.bulk_model.specs.Installs.{installs}
use Rattle.bulk_model.specs.PlanView.{PlanView, count, depends, is_ignored, job_at}
use Rattle.bulk_model.specs.Results.{kept_at, bakes_by, status_at}
use Rattle.bulk_model.specs.Views.{PackageView}

-- nothing is kept
abbrev pub none_kept : PlanView → KeptPackages
none_kept plan = record { packages = map (λ job. None) plan.jobs }

-- what is kept counts as built
abbrev pub as_built : Status → Status
as_built (Kept p) = Built p
as_built (Built p) = Built p
as_built (Failed phase code) = Failed phase code
as_built Ignored = Ignored
as_built Skipped = Skipped

-- each kept node is not ignored, its dependencies are kept, and its package is what its job gives over
-- what is kept
pub record AreMade (runs : Runs) (plan : PlanView) (kept : KeptPackages) : Type 0 where
  pub closed : (n d : ℕ) (p : PackageView) → n < count plan → kept_at kept n ≡ Some p
      → Contains (depends plan n) d → (q : PackageView) × (kept_at kept d ≡ Some q)
  pub free : (n : ℕ) (p : PackageView) → n < count plan → kept_at kept n ≡ Some p
      → is_ignored plan n ≡ false
  pub made : (n : ℕ) (p : PackageView) → n < count plan → kept_at kept n ≡ Some p
      → bake runs plan.base (job_at plan n) (filter_map (kept_at kept) (installs plan n))
      ≡ MadePackage p

-- a run comes to what a run that keeps nothing comes to, node by node
abbrev pub IsAsClean : Runs → PlanView → KeptPackages → Type 0
IsAsClean runs plan kept =
    (n : ℕ) → n < count plan
    → as_built (status_at (bakes_by runs plan) plan kept n)
    ≡ status_at (bakes_by runs plan) plan (none_kept plan) n
