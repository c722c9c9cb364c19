-- Laws on builds and what comes of a node.
use Rattle.std.specs.Prelude.{◌≡◌, ℕ, Bool, true, false, ◌<◌, List, Option, Some, IsTrue}
use Rattle.std.specs.List.{list_all}
use Rattle.bulk_base.specs.declared.file.FileItem.{FileItem}
use Rattle.bulk_model.specs.declared.outcome.Outcome.{Outcome}
use Rattle.bulk_model.specs.declared.plan.Kept.{Kept as KeptPackages}
use Rattle.bulk_model.specs.declared.results.Status.{Status}
use Rattle.bulk_model.specs.declared.results.Status.TheVariants.{Built}
use Rattle.bulk_model.specs.Bake.{Runs, bake}
use Rattle.bulk_model.specs.Baked.{IsBuildOf, HasFieldsOf, IsOfJob, IsOutcomeAt}
use Rattle.bulk_model.specs.DryLists.{bakes_well}
use Rattle.bulk_model.specs.Fit.{status_in, outcome_at}
use Rattle.bulk_model.specs.PlanFacts.{IsPlan}
use Rattle.bulk_model.specs.PlanView.{PlanView, count, depends, is_ignored, job_at}
use Rattle.bulk_model.specs.Results.{Bakes, is_kept, is_good, status_at, statuses_of, bakes_by, bakes_given}
use Rattle.bulk_model.specs.Views.{JobView, PackageView}
use Rattle.model_laws.specs.Results.{packages_at}

-- builds give only packages with the fields of their node's job
abbrev pub GivesJobs : PlanView → Bakes → Type 0
GivesJobs plan bakes =
    (n : ℕ) (packages : List PackageView) → n < count plan
    → IsOfJob (job_at plan n) (bakes n packages)

-- then each built package in the results has the fields of its node's job
abbrev pub BuiltHaveFields : Type 0
BuiltHaveFields =
    (bakes : Bakes) (plan : PlanView) (kept : KeptPackages) → IsPlan plan → GivesJobs plan bakes
    → (n : ℕ) (p : PackageView)
    → n < count plan → status_in (statuses_of bakes plan kept) n ≡ Built p
    → HasFieldsOf (job_at plan n) p

-- such are builds where rooms tell
abbrev pub BakesGiveJobs : Type 0
BakesGiveJobs = (runs : Runs) (plan : PlanView) → GivesJobs plan (bakes_by runs plan)

-- and builds that are taken to succeed
abbrev pub DryBuildsGiveJobs : Type 0
DryBuildsGiveJobs = (plan : PlanView) → GivesJobs plan (bakes_well plan)

-- and outcomes that are given in place of builds, and have these fields
abbrev pub OutcomesGiveJobs : Type 0
OutcomesGiveJobs =
    (outcomes : List (Option Outcome)) (plan : PlanView)
    → ((n : ℕ) (outcome : Outcome) → n < count plan → outcome_at outcomes n ≡ Some outcome
    → IsOfJob (job_at plan n) outcome)
    → GivesJobs plan (bakes_given outcomes)

-- what rooms tell of a build may come of it
abbrev pub BakeIsBuild : Type 0
BakeIsBuild =
    (tells : Bool) (runs : Runs) (base : List FileItem) (job : JobView)
    (packages : List PackageView)
    → IsBuildOf tells runs base job packages (bake runs base job packages)

-- in these statuses each dependency of a node has a package, and these are the packages of all that
-- is installed for it
pub record AreInstalledAt (plan : PlanView) (s : ℕ → Status) (n : ℕ) (packages : List PackageView)
    : Type 0 where
  pub good : list_all (λ d. is_good (s d)) (depends plan n) ≡ true
  pub those : packages ≡ packages_at plan s n

-- what comes of a right build is right at its node: the node was to be built, and where rooms tell,
-- it was built over the packages of the results
abbrev pub RightBuildsAreRight : Type 0
RightBuildsAreRight =
    (tells : Bool) (runs : Runs) (plan : PlanView) (kept : KeptPackages) (n : ℕ)
    (packages : List PackageView) (outcome : Outcome)
    → IsPlan plan → n < count plan → is_kept kept n ≡ false → is_ignored plan n ≡ false
    → (IsTrue tells → AreInstalledAt plan (status_at (bakes_by runs plan) plan kept) n packages)
    → IsBuildOf tells runs plan.base (job_at plan n) packages outcome
    → IsOutcomeAt tells runs plan kept n outcome

-- statuses so far: where they have a package, they are right, and have one of each dependency
pub record AreRightSoFar (bakes : Bakes) (plan : PlanView) (kept : KeptPackages) (s : ℕ → Status)
    : Type 0 where
  pub right : (n : ℕ) → n < count plan → is_good (s n) ≡ true → s n ≡ status_at bakes plan kept n
  pub behind : (n : ℕ) → n < count plan → is_good (s n) ≡ true
      → list_all (λ d. is_good (s d)) (depends plan n) ≡ true

-- they have the right packages for each build all of whose dependencies they have
abbrev pub StatusesSoFarInstall : Type 0
StatusesSoFarInstall =
    (bakes : Bakes) (plan : PlanView) (kept : KeptPackages) (s : ℕ → Status) → IsPlan plan
    → AreRightSoFar bakes plan kept s → (n : ℕ) → n < count plan
    → list_all (λ d. is_good (s d)) (depends plan n) ≡ true
    → AreInstalledAt plan (status_at bakes plan kept) n (packages_at plan s n)
