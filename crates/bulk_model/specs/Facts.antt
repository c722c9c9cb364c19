-- What holds of every job and every package.
use Rattle.std.specs.Prelude.{ℕ, Bool, true, ◌&&◌, nat_le, List, [], ◌∷◌, length, map, IsTrue, IfSome}
use Rattle.std.specs.List.{list_all, AllByRecursion}
use Rattle.bulk_base.specs.Names.{IsPackageName, IsOrigin, IsNode, is_flavor, is_option_name}
use Rattle.bulk_base.specs.declared.file.FileItem.{FileItem}
use Rattle.bulk_base.specs.declared.file.Switch.{Switch}
use Rattle.outside.specs.Contents.{IsAscending, has_no_folder}
use Rattle.std.specs.Cmp.Lexicographic.{slice_cmp}
use Rattle.std.specs.Ordering.{nat_cmp, is_lt, ordering_then}
use Rattle.bulk_model.specs.declared.depend.Depend.{Depend}
use Rattle.bulk_model.specs.declared.depend.DepKind.{DepKind}
use Rattle.bulk_model.specs.declared.depend.DepKind.TheVariants.{Pkg, Fetch, Extract, Patch, Build, Lib, Run}
use Rattle.bulk_model.specs.declared.depend.Recorded.{Recorded}
use Rattle.bulk_model.specs.Views.{JobView, PackageView, need_of}

-- the place of a kind in the order of the dependency variables
abbrev pub kind_number : DepKind → ℕ
kind_number Pkg = 0
kind_number Fetch = 1
kind_number Extract = 2
kind_number Patch = 3
kind_number Build = 4
kind_number Lib = 5
kind_number Run = 6

abbrev pub paths_of : List FileItem → List (List ℕ)
paths_of files = map (λ f. f.path) files

-- files by path, each once, none a folder of another, each path at most that long
pub record IsFileList (most : ℕ) (files : List FileItem) : Type 0 where
  pub order : IsAscending (paths_of files)
  pub apart : IsTrue (has_no_folder (paths_of files))
  pub short : IsTrue (list_all (λ path. nat_le (length path) most) (paths_of files))

-- options by name, each once, the names in form
pub record IsOptionList (options : List Switch) : Type 0 where
  pub order : IsAscending (map (λ o. o.name) options)
  pub forms : IsTrue (list_all is_option_name (map (λ o. o.name) options))

abbrev pub comes_before : Depend → Depend → Bool
comes_before a b =
    is_lt (ordering_then (nat_cmp (kind_number a.kind) (kind_number b.kind))
    (slice_cmp nat_cmp a.node b.node))

-- each element comes before the next
abbrev pub each_before : List Depend → Bool
each_before [] = true
each_before (a ∷ []) = true
each_before (a ∷ b ∷ more) = comes_before a b && each_before (b ∷ more)

-- dependencies by kind, then node, each pair once, the names in form
pub record IsDependList (depends : List Depend) : Type 0 where
  pub order : IsTrue (each_before depends)
  pub nodes : AllByRecursion (λ d. IsNode d.node) depends
  pub names : AllByRecursion (λ d. IsPackageName d.name) depends

-- the same of what a package records of them
abbrev pub IsRecordedList : List Recorded → Type 0
IsRecordedList depends = IsDependList (map need_of depends)

pub record IsJob (job : JobView) : Type 0 where
  pub name : IsPackageName job.name
  pub origin : IsOrigin job.origin
  pub flavor : IfSome job.flavor (λ f. IsTrue (is_flavor f))
  pub options : IsOptionList job.options
  pub depends : IsDependList job.depends
  pub files : IsFileList 1019 job.files

pub record IsPackage (p : PackageView) : Type 0 where
  pub name : IsPackageName p.name
  pub origin : IsOrigin p.origin
  pub flavor : IfSome p.flavor (λ f. IsTrue (is_flavor f))
  pub options : IsOptionList p.options
  pub depends : IsRecordedList p.depends
  pub files : IsFileList 1018 p.files
