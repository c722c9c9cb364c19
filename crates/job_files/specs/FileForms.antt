-- What holds of files while they are gathered, told or not.
use Rattle.std.specs.Prelude.{◌≡◌, ℕ, ◌⊎◌, nat_le, ◌≤◌, List, [], ◌∷◌, ◌++◌, length, map, find, None, IsTrue}
use Rattle.std.specs.List.{list_all}
use Rattle.bulk_base.specs.declared.file.FileItem.{FileItem}
use Rattle.outside.specs.Contents.{IsAscending, has_no_folder}
use Rattle.bulk_model.specs.Facts.{paths_of}
use Rattle.dist_files.specs.declared.dist.Dist.{Dist}
use Rattle.job_files.specs.Distfiles.{is_kept_for_dist}

-- a file at a path that is short enough to stand in a job was added, or nothing
abbrev pub AddsAtMost : List ℕ → List FileItem → List FileItem → Type 0
AddsAtMost path before after =
    ((paths_of after ≡ paths_of before ++ path ∷ []) × (length path ≤ 1019)) ⊎ (after ≡ before)

-- a file at a path was added
abbrev pub HasOneMore : List ℕ → List FileItem → List FileItem → Type 0
HasOneMore path before after = paths_of after ≡ paths_of before ++ path ∷ []

abbrev pub files_of : List Dist → List (List ℕ)
files_of dists = map (λ dist. dist.file) dists

-- the entries of a list: by file, none a folder of another, each short enough to stand in a job and in the tree
pub record AreEntries (dists : List Dist) : Type 0 where
  pub order : IsAscending (files_of dists)
  pub apart : IsTrue (has_no_folder (files_of dists))
  pub short : IsTrue (list_all (λ file. nat_le (length file) 1014) (files_of dists))

-- none of a port's own files stands where its distfiles would
abbrev pub IsFreeOfDist : List FileItem → Type 0
IsFreeOfDist files = find (λ file. is_kept_for_dist file.path) files ≡ None
