-- What a store was read as.
use Rattle.std.specs.Prelude.{ℕ, ◌+◌, ◌≤◌, List, length, map, Contains}
use Rattle.outside.specs.Contents.{IsAscending}
use Rattle.bulk_model.specs.FileNames.{package_file}
use Rattle.bulk_model.specs.Limits.{most}
use Rattle.bulk_model.specs.declared.which.Which.TheVariants.{StoreNames}
use Rattle.bulk_model.specs.Views.{PackageView}

-- the readable packages, the files with records of version 1, and the damaged files
pub record LoadedView : Type 0 where
  pub packages : List PackageView
  pub old : List (List ℕ)
  pub damaged : List (List ℕ)

-- the names of the files that are named after packages
abbrev pub files_of : List PackageView → List (List ℕ)
files_of packages = map (λ p. package_file p.name) packages

-- no file is in both
abbrev pub AreApart : List (List ℕ) → List (List ℕ) → Type 0
AreApart files others = (file : List ℕ) → Contains files file → Contains others file → ⊥

-- each list in the byte order of the files' names, each file once and in one list alone, and no more files than a store may
-- have
pub record IsLoaded (loaded : LoadedView) : Type 0 where
  pub packages : IsAscending (files_of loaded.packages)
  pub old : IsAscending loaded.old
  pub damaged : IsAscending loaded.damaged
  pub packages_old : AreApart (files_of loaded.packages) loaded.old
  pub packages_damaged : AreApart (files_of loaded.packages) loaded.damaged
  pub old_damaged : AreApart loaded.old loaded.damaged
  pub few : length loaded.packages + (length loaded.old + length loaded.damaged) ≤ most StoreNames
