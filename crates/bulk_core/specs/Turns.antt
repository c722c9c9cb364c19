-- What is known of one builder at each of its turns.
use Rattle.std.specs.Prelude.{◌≡◌, ℕ, Bool, true, false, ◌<◌, ◌⊎◌, nat_eq, List, [], ◌∷◌, ◌++◌, slice_set, Option, Some, None, is_some, Contains, if◌then◌else◌}
use Rattle.std.specs.List.{list_all, IsDistinct}
use Rattle.std.specs.Option.{option_map_or}
use Rattle.bulk_model.specs.declared.outcome.Outcome.{Outcome}
use Rattle.bulk_model.specs.declared.outcome.Outcome.TheVariants.{Built as MadePackage, Failed as FailedBuild}
use Rattle.bulk_model.specs.declared.plan.Kept.{Kept as KeptPackages}
use Rattle.bulk_model.specs.declared.results.Status.{Status}
use Rattle.bulk_model.specs.declared.results.Status.TheVariants.{Kept, Ignored, Skipped}
use Rattle.bulk_model.specs.Bake.{Runs}
use Rattle.bulk_model.specs.Baked.{IsBuildOf}
use Rattle.bulk_model.specs.Fit.{status_in, outcome_at, is_there, FitsPartial}
use Rattle.bulk_model.specs.Order.{order}
use Rattle.bulk_model.specs.PlanView.{PlanView, count, depends, is_ignored, job_at}
use Rattle.bulk_model.specs.Results.{kept_at, is_kept, status_of_outcome}
use Rattle.bulk_model.specs.Views.{PackageView}
use Rattle.bucket_queue.specs.Taking.{AreResults}
use Rattle.model_laws.specs.Results.{packages_at}
use Rattle.bulk_core.specs.Builder.{Outcomes, names_at, left}

abbrev pub is_made : Outcome → Bool
is_made (MadePackage p) = true
is_made (FailedBuild phase code) = false

-- the status of a node by its outcome so far, if any
abbrev pub settled_by : PlanView → KeptPackages → ℕ → Option Outcome → Status
settled_by plan kept n outcome =
    option_map_or Kept (kept_at kept n)
    (if is_ignored plan n then Ignored else option_map_or status_of_outcome outcome Skipped)

abbrev pub settled : PlanView → KeptPackages → Outcomes → ℕ → Status
settled plan kept outcomes n = settled_by plan kept n (outcome_at outcomes n)

-- the packages that are installed for a build
abbrev pub packages_for : PlanView → KeptPackages → Outcomes → ℕ → List PackageView
packages_for plan kept outcomes n = packages_at plan (settled plan kept outcomes) n

-- a node has its outcome already
pub record Had (plan : PlanView) (n : ℕ) (before after : Outcomes) (begun now : List (List ℕ))
    (made : Bool) : Type 0 where
  pub outcome : Outcome
  pub there : outcome_at before n ≡ Some outcome
  pub same : after ≡ before
  pub begun_is : now ≡ begun
  pub made_is : made ≡ is_made outcome

-- a node was built
pub record Baked (tells : Bool) (runs : Runs) (plan : PlanView) (kept : KeptPackages) (n : ℕ)
    (before after : Outcomes) (begun now : List (List ℕ)) (made : Bool) : Type 0 where
  pub outcome : Outcome
  pub new : outcome_at before n ≡ None
  pub after_is : after ≡ slice_set before n (Some outcome)
  pub begun_is : now ≡ begun ++ (job_at plan n).name ∷ []
  pub build : IsBuildOf tells runs plan.base (job_at plan n) (packages_for plan kept before n)
      outcome
  pub made_is : made ≡ is_made outcome

abbrev pub Turn : Bool → Runs → PlanView → KeptPackages → ℕ → Outcomes → Outcomes
    → List (List ℕ) → List (List ℕ) → Bool → Type 0
Turn tells runs plan kept n before after begun now made =
    Had plan n before after begun now made
    ⊎ Baked tells runs plan kept n before after begun now made

-- statuses have the kept packages and these outcomes
pub record Agrees (plan : PlanView) (kept : KeptPackages) (outcomes : Outcomes)
    (statuses : List Status) : Type 0 where
  pub keeps : (n : ℕ) (p : PackageView) → n < count plan → kept_at kept n ≡ Some p
      → status_in statuses n ≡ Kept p
  pub ends : (n : ℕ) (outcome : Outcome) → outcome_at outcomes n ≡ Some outcome
      → status_in statuses n ≡ status_of_outcome outcome

-- whatever statuses come in the end, each outcome is one of its node's build over the packages that they give
abbrev pub AreBuilds : Bool → Runs → PlanView → KeptPackages → Outcomes → Outcomes → Type 0
AreBuilds tells runs plan kept given outcomes =
    (statuses : List Status) → Agrees plan kept outcomes statuses → (n : ℕ) (outcome : Outcome)
    → outcome_at outcomes n ≡ Some outcome → outcome_at given n ≡ None
    → IsBuildOf tells runs plan.base (job_at plan n) (packages_at plan (status_in statuses) n)
    outcome

-- all that could be built has its outcome
pub record IsEnded (tells : Bool) (runs : Runs) (plan : PlanView) (kept : KeptPackages)
    (given outcomes : Outcomes) (before now : List (List ℕ)) : Type 0 where
  pub numbers : List ℕ
  pub begun : now ≡ before ++ names_at plan (left given numbers)
  pub order_is : (statuses : List Status) → AreResults plan kept statuses
      → Agrees plan kept outcomes statuses → numbers ≡ order plan kept statuses
  pub taken : (n : ℕ) → Contains numbers n → is_some (outcome_at outcomes n) ≡ true
  pub listed : (n : ℕ) (outcome : Outcome) → outcome_at outcomes n ≡ Some outcome
      → Contains numbers n
  pub once : IsDistinct nat_eq (left given numbers)
  pub fits : FitsPartial plan kept outcomes
  pub stays : (n : ℕ) (outcome : Outcome) → outcome_at given n ≡ Some outcome
      → outcome_at outcomes n ≡ Some outcome
  pub builds : AreBuilds tells runs plan kept given outcomes
  pub none_left : (n : ℕ) → n < count plan → is_kept kept n ≡ false → is_ignored plan n ≡ false
      → outcome_at outcomes n ≡ None
      → list_all (is_there kept outcomes) (depends plan n) ≡ false
