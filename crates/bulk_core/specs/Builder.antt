-- What one builder answers, and what it builds (docs/DEFINITIONS.md, "One builder").
use Rattle.std.specs.Prelude.{◌≡◌, ℕ, Bool, true, false, not, ◌||◌, ◌&&◌, ◌<◌, nat_eq, List, [], ◌∷◌, ◌++◌, map, filter, Option, Some, None, is_some, Contains}
use Rattle.std.specs.List.{list_all, IsDistinct}
use Rattle.bulk_model.specs.declared.outcome.Outcome.{Outcome}
use Rattle.bulk_model.specs.declared.outcome.Outcome.TheVariants.{Built as MadePackage, Failed as FailedBuild}
use Rattle.bulk_model.specs.declared.plan.Kept.{Kept as KeptPackages}
use Rattle.bulk_model.specs.declared.results.Status.{Status}
use Rattle.bulk_model.specs.declared.results.Status.TheVariants.{Kept, Built, Failed, Ignored, Skipped}
use Rattle.bulk_model.specs.Baked.{IsPackageOf}
use Rattle.bulk_model.specs.Fit.{status_in, outcome_at, is_there}
use Rattle.bulk_model.specs.Installs.{has}
use Rattle.bulk_model.specs.Order.{is_tried}
use Rattle.bulk_model.specs.PlanView.{PlanView, count, depends, is_ignored, job_at}
use Rattle.bulk_model.specs.Results.{Bakes, is_kept, status_of_outcome, status_at}
use Rattle.bulk_model.specs.Views.{PackageView}
use Rattle.model_laws.specs.Results.{packages_at}

abbrev pub Outcomes : Type 0
Outcomes = List (Option Outcome)

-- the outcome that a status tells of
abbrev pub outcome_in : Status → Option Outcome
outcome_in (Kept p) = None
outcome_in (Built p) = Some (MadePackage p)
outcome_in (Failed phase code) = Some (FailedBuild phase code)
outcome_in Ignored = None
outcome_in Skipped = None

abbrev pub outcomes_in : List Status → Outcomes
outcomes_in statuses = map outcome_in statuses

-- the package names of nodes
abbrev pub names_at : PlanView → List ℕ → List (List ℕ)
names_at plan numbers = map (λ n. (job_at plan n).name) numbers

-- those of the nodes for which no outcome is given
abbrev pub left : Outcomes → List ℕ → List ℕ
left given numbers = filter (λ n. not (is_some (outcome_at given n))) numbers

-- given outcomes are those of the results
pub record AreOfResults (bakes : Bakes) (plan : PlanView) (kept : KeptPackages)
    (given : Outcomes) : Type 0 where
  pub each : (n : ℕ) (outcome : Outcome) → outcome_at given n ≡ Some outcome
      → status_at bakes plan kept n ≡ status_of_outcome outcome

-- each given outcome is what came of its node
pub record Stay (given : Outcomes) (statuses : List Status) : Type 0 where
  pub each : (n : ℕ) (outcome : Outcome) → outcome_at given n ≡ Some outcome
      → status_in statuses n ≡ status_of_outcome outcome

-- each built package for which no outcome was given has its job's fields and recipe, its dependencies have the digests of
-- the records of the packages that were installed for it, and it is not too heavy
pub record AreOfJobs (plan : PlanView) (given : Outcomes) (statuses : List Status) : Type 0 where
  pub each : (n : ℕ) (p : PackageView) → n < count plan → outcome_at given n ≡ None
      → status_in statuses n ≡ Built p
      → IsPackageOf plan.base (job_at plan n) (packages_at plan (status_in statuses) n) p

-- each stands behind its dependencies, but for those that are there before any
abbrev pub is_in_order : PlanView → (ℕ → Bool) → List ℕ → List ℕ → Bool
is_in_order plan there before [] = true
is_in_order plan there before (n ∷ numbers) =
    list_all (λ d. there d || has before d) (depends plan n)
    && is_in_order plan there (n ∷ before) numbers

-- exactly the nodes that were built, well or not, and for which no outcome was given, each once, dependencies first
pub record AreLeft (plan : PlanView) (kept : KeptPackages) (given : Outcomes)
    (statuses : List Status) (numbers : List ℕ) : Type 0 where
  pub exactly : (n : ℕ) → n < count plan
      → has numbers n ≡ (is_tried (status_in statuses n) && not (is_some (outcome_at given n)))
  pub once : IsDistinct nat_eq numbers
  pub in_order : is_in_order plan (is_there kept given) [] numbers ≡ true

-- a node that may be begun: neither kept nor ignored, and without a given outcome
pub record MayBegin (plan : PlanView) (kept : KeptPackages) (given : Outcomes) (n : ℕ)
    : Type 0 where
  pub node : n < count plan
  pub kept_not : is_kept kept n ≡ false
  pub ignored_not : is_ignored plan n ≡ false
  pub new : outcome_at given n ≡ None

-- the names grew by those of nodes that may be begun, each at most once
pub record Began (plan : PlanView) (kept : KeptPackages) (given : Outcomes)
    (before now : List (List ℕ)) : Type 0 where
  pub numbers : List ℕ
  pub grew : now ≡ before ++ names_at plan numbers
  pub once : IsDistinct nat_eq numbers
  pub those : (n : ℕ) → Contains numbers n → MayBegin plan kept given n
