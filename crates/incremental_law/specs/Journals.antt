-- A run over the content of a store: what it deletes, and what it puts.
use Rattle.std.specs.Prelude.{◌≡◌, ℕ, Bool, ◌⊎◌, List, ◌++◌, Contains}
use Rattle.outside.specs.declared.change.Change.{Change}
use Rattle.bulk_model.specs.declared.plan.Kept.{Kept as KeptPackages}
use Rattle.bulk_model.specs.declared.results.Status.TheVariants.{Built}
use Rattle.bulk_model.specs.declared.version.Version.TheVariants.{Two}
use Rattle.bulk_model.specs.Bake.{Runs}
use Rattle.bulk_model.specs.FileNames.{package_file}
use Rattle.bulk_model.specs.Journal.{Passes, removals}
use Rattle.bulk_model.specs.PlanView.{PlanView}
use Rattle.bulk_model.specs.Results.{bakes_by, status_at}
use Rattle.bulk_model.specs.Spelling.{spelling}
use Rattle.bulk_model.specs.Views.{PackageView}
use Rattle.pkg_record.specs.Laws.{HasRecord}
use Rattle.stale_check.specs.Fresh.{fresh}

-- bytes are the record of the package that a run built at a node
pub record IsBuiltRecord (runs : Runs) (plan : PlanView) (kept : KeptPackages) (n : ℕ)
    (bytes : List ℕ) : Type 0 where
  pub built : PackageView
  pub comes : status_at (bakes_by runs plan) plan kept n ≡ Built built
  pub recorded : HasRecord Two built
  pub spelled : bytes ≡ spelling built

abbrev pub built_records : Runs → PlanView → KeptPackages → Passes
built_records runs plan kept n bytes = IsBuiltRecord runs plan kept n bytes

-- files of packages are deleted: of those that a store holds, just those that passes do not leave
pub record DeletesRest (own : PackageView → Bool) (members : List PackageView)
    (deleted : List (List ℕ)) : Type 0 where
  pub files : (file : List ℕ) → Contains deleted file
      → (name : List ℕ) × (file ≡ package_file name)
  pub spared : (p : PackageView) → Contains (fresh own members) p
      → Contains deleted (package_file p.name) → ⊥
  pub gone : (p : PackageView) → Contains members p
      → Contains (fresh own members) p ⊎ Contains deleted (package_file p.name)

-- all deletions are behind
abbrev pub IsPastDeletions : List (List ℕ) → List Change → Type 0
IsPastDeletions deleted changes = (more : List Change) × (changes ≡ removals deleted ++ more)
