-- What holds of a build's outcome, and of what comes of a node, whether rooms tell what commands do or not.
use Rattle.std.specs.Prelude.{◌≡◌, ◌≤◌, ℕ, Bool, List, map, IsTrue}
use Rattle.bulk_base.specs.declared.file.FileItem.{FileItem}
use Rattle.bulk_model.specs.declared.outcome.Outcome.{Outcome}
use Rattle.bulk_model.specs.declared.outcome.Outcome.TheVariants.{Built, Failed}
use Rattle.bulk_model.specs.declared.plan.Kept.{Kept as KeptPackages}
use Rattle.bulk_model.specs.Bake.{Runs, bake, package_of}
use Rattle.bulk_model.specs.PlanView.{PlanView, job_at}
use Rattle.bulk_model.specs.Results.{bakes_by, status_at, status_of_outcome}
use Rattle.bulk_model.specs.Views.{JobView, PackageView, need_of}
use Rattle.bulk_model.specs.Weight.{weight_of, most_weight}

-- a package of a job: all that the job's build over a base root and these packages decides beforehand is as it decides
pub record IsPackageOf (base : List FileItem) (job : JobView) (packages : List PackageView)
    (p : PackageView) : Type 0 where
  pub made : p ≡ package_of base job packages p.files
  pub light : weight_of p.files ≤ most_weight

abbrev pub IsOutcomeOf : List FileItem → JobView → List PackageView → Outcome → Type 0
IsOutcomeOf base job packages (Built p) = IsPackageOf base job packages p
IsOutcomeOf base job packages (Failed phase code) = Unit {0}

-- what a build may come to: a failure, or a package of the job; where rooms tell what commands do, it is what `bake` gives
pub record IsBuildOf (tells : Bool) (runs : Runs) (base : List FileItem) (job : JobView)
    (packages : List PackageView) (outcome : Outcome) : Type 0 where
  pub fields : IsOutcomeOf base job packages outcome
  pub told : IsTrue tells → outcome ≡ bake runs base job packages

-- a package has the fields of a job, whatever it was built over
pub record HasFieldsOf (job : JobView) (p : PackageView) : Type 0 where
  pub name : p.name ≡ job.name
  pub origin : p.origin ≡ job.origin
  pub flavor : p.flavor ≡ job.flavor
  pub options : p.options ≡ job.options
  pub depends : map need_of p.depends ≡ job.depends

abbrev pub IsOfJob : JobView → Outcome → Type 0
IsOfJob job (Built p) = HasFieldsOf job p
IsOfJob job (Failed phase code) = Unit {0}

-- what may come of a node: a failure, or a package with its job's fields; where rooms tell what commands do, it is what
-- one builder gives
pub record IsOutcomeAt (tells : Bool) (runs : Runs) (plan : PlanView) (kept : KeptPackages) (n : ℕ)
    (outcome : Outcome) : Type 0 where
  pub fields : IsOfJob (job_at plan n) outcome
  pub told : IsTrue tells → status_at (bakes_by runs plan) plan kept n ≡ status_of_outcome outcome
