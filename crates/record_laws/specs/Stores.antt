-- What holds of the packages of a store's content, and what a change of the content changes (docs/FORMATS.md, "The store").
use Rattle.std.specs.Prelude.{◌≡◌, ◌≢◌, ◌↔◌, ◌⊎◌, ℕ, false, List, Contains, Some, Ok}
use Rattle.std.specs.FinMap.{get, insert, remove}
use Rattle.outside.specs.Contents.{Contents}
use Rattle.bulk_model.specs.declared.version.Version.TheVariants.{Two}
use Rattle.bulk_model.specs.FileNames.{package_file, is_package_file}
use Rattle.bulk_model.specs.Sound.{HasNames}
use Rattle.bulk_model.specs.Spelling.{spelling}
use Rattle.bulk_model.specs.Views.{PackageView}
use Rattle.pkg_record.specs.declared.answer.Record.TheVariants.{New}
use Rattle.pkg_record.specs.Laws.{HasRecord}
use Rattle.pkg_record.specs.Reading.{record_of}
use Rattle.pkg_record.specs.Stored.{packages_in}

-- the file that is named after a package has bytes that are read as it
pub record IsThere (content : Contents) (p : PackageView) : Type 0 where
  pub bytes : List ℕ
  pub there : get content (package_file p.name) ≡ Some bytes
  pub read : record_of bytes ≡ Ok (New p)

-- just these are the packages of a content
abbrev pub PackagesAreThere : Type 0
PackagesAreThere =
    (content : Contents) (p : PackageView) → Contains (packages_in content) p ↔ IsThere content p

-- no two of them have one name
abbrev pub PackagesHaveNames : Type 0
PackagesHaveNames = (content : Contents) → HasNames (packages_in content)

abbrev pub IsOfAnotherName : Contents → List ℕ → PackageView → Type 0
IsOfAnotherName content name q = Contains (packages_in content) q × (q.name ≢ name)

-- after the put of a package's record under its own file name they are this package and those of other names
abbrev pub PutsArePackages : Type 0
PutsArePackages =
    (content : Contents) (p : PackageView) → HasRecord Two p
    → (q : PackageView) → Contains
    (packages_in (insert content (package_file p.name) (spelling p))) q
    ↔ ((q ≡ p) ⊎ IsOfAnotherName content p.name q)

-- after the removal of a package's file they are those of other names
abbrev pub RemovalsLeaveOthers : Type 0
RemovalsLeaveOthers =
    (content : Contents) (name : List ℕ) (q : PackageView)
    → Contains (packages_in (remove content (package_file name))) q ↔ IsOfAnotherName content name q

-- a change under a name that is no package file's leaves them
abbrev pub OtherPutsLeaveAll : Type 0
OtherPutsLeaveAll =
    (content : Contents) (file bytes : List ℕ) → is_package_file file ≡ false
    → (q : PackageView) → Contains (packages_in (insert content file bytes)) q
    ↔ Contains (packages_in content) q

abbrev pub OtherRemovalsLeaveAll : Type 0
OtherRemovalsLeaveAll =
    (content : Contents) (file : List ℕ) → is_package_file file ≡ false
    → (q : PackageView) → Contains (packages_in (remove content file)) q
    ↔ Contains (packages_in content) q
