-- What kept packages and results have to do with their plan.
use Rattle.std.specs.Prelude.{◌≡◌, ℕ, Bool, true, false, not, ◌||◌, ◌<◌, List, length, map, slice_index_or, Option, Some, None, IfSome}
use Rattle.std.specs.List.{list_all, list_any}
use Rattle.bulk_model.specs.declared.outcome.Outcome.{Outcome}
use Rattle.bulk_model.specs.declared.outcome.Outcome.TheVariants.{Built as MadePackage, Failed as FailedBuild}
use Rattle.bulk_model.specs.declared.plan.Kept.{Kept as KeptPackages}
use Rattle.bulk_model.specs.declared.results.Status.{Status}
use Rattle.bulk_model.specs.declared.results.Status.TheVariants.{Kept, Built, Failed, Ignored, Skipped}
use Rattle.bulk_model.specs.Views.{JobView, PackageView, need_of}
use Rattle.bulk_model.specs.PlanView.{PlanView, count, depends, is_ignored, job_at}
use Rattle.bulk_model.specs.Results.{kept_at, is_kept, is_good}

-- the package is one that a job may keep: of its name and options, and the kinds, nodes and names of its dependencies
pub record MayKeep (job : JobView) (p : PackageView) : Type 0 where
  pub name : p.name ≡ job.name
  pub options : p.options ≡ job.options
  pub depends : map need_of p.depends ≡ job.depends

-- one place per node; no kept node is ignored, all its dependencies are kept, and its package is one that its job may keep
pub record FitsKept (plan : PlanView) (kept : KeptPackages) : Type 0 where
  pub places : length kept.packages ≡ count plan
  pub allowed : (n : ℕ) → n < count plan → is_kept kept n ≡ true → is_ignored plan n ≡ false
  pub closed : (n : ℕ) → n < count plan → is_kept kept n ≡ true
      → list_all (is_kept kept) (depends plan n) ≡ true
  pub fields : (n : ℕ) → n < count plan → IfSome (kept_at kept n) (MayKeep (job_at plan n))

abbrev pub status_in : List Status → ℕ → Status
status_in statuses n = slice_index_or statuses n Skipped

abbrev pub is_ignored_status : Status → Bool
is_ignored_status (Kept p) = false
is_ignored_status (Built p) = false
is_ignored_status (Failed phase code) = false
is_ignored_status Ignored = true
is_ignored_status Skipped = false

abbrev pub is_skipped : Status → Bool
is_skipped (Kept p) = false
is_skipped (Built p) = false
is_skipped (Failed phase code) = false
is_skipped Ignored = false
is_skipped Skipped = true

-- a node has a dependency without a package
abbrev pub has_setback : PlanView → List Status → ℕ → Bool
has_setback plan statuses n = list_any (λ d. not (is_good (status_in statuses d))) (depends plan n)

-- one place per node, only what the plan ignores is ignored, and what is skipped has a dependency without a package
pub record FitsResults (plan : PlanView) (statuses : List Status) : Type 0 where
  pub places : length statuses ≡ count plan
  pub ignored : (n : ℕ) → n < count plan → is_ignored_status (status_in statuses n) ≡ true
      → is_ignored plan n ≡ true
  pub skipped : (n : ℕ) → n < count plan → is_skipped (status_in statuses n) ≡ true
      → has_setback plan statuses n ≡ true

abbrev pub outcome_at : List (Option Outcome) → ℕ → Option Outcome
outcome_at outcomes n = slice_index_or outcomes n None

abbrev pub has_built : Option Outcome → Bool
has_built None = false
has_built (Some (MadePackage p)) = true
has_built (Some (FailedBuild phase code)) = false

-- whether a node has a package, once these builds have ended
abbrev pub is_there : KeptPackages → List (Option Outcome) → ℕ → Bool
is_there kept outcomes n = is_kept kept n || has_built (outcome_at outcomes n)

-- one place per node; outcomes stand only at nodes that were to be built and whose dependencies were there
pub record FitsPartial (plan : PlanView) (kept : KeptPackages)
    (outcomes : List (Option Outcome)) : Type 0 where
  pub places : length outcomes ≡ count plan
  pub own : (n : ℕ) (outcome : Outcome) → outcome_at outcomes n ≡ Some outcome
      → (is_kept kept n ≡ false) × (is_ignored plan n ≡ false)
  pub behind : (n : ℕ) (outcome : Outcome) → outcome_at outcomes n ≡ Some outcome
      → list_all (is_there kept outcomes) (depends plan n) ≡ true
