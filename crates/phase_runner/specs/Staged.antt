-- Staged files that are taken one after another.
use Rattle.std.specs.Prelude.{◌≡◌, ℕ, ◌≤◌, nat_lt, List, length, drop, Option, Some, None, if◌then◌else◌}
use Rattle.bulk_base.specs.declared.file.FileItem.{FileItem}
use Rattle.bulk_model.specs.Weight.{file_weight, weight_of, most_weight}
use Rattle.phase_runner.specs.declared.staging.Taken.{Taken}
use Rattle.phase_runner.specs.declared.staging.Taken.TheVariants.{Gone, File, TooHeavy}

-- what is taken of a file that may weigh so much
abbrev pub taken_of : ℕ → Option FileItem → Taken
taken_of left None = Gone
taken_of left (Some file) = if nat_lt left (file_weight file) then TooHeavy else File file

-- what is said of a file that was taken
abbrev pub IfTaken : Taken → (FileItem → Type 0) → Type 0
IfTaken (File file) P = P file
IfTaken _ P = Unit {0}

-- the file at a path below `stage/`, not too heavy
pub record IsTakenFile (left : ℕ) (path : List ℕ) (file : FileItem) : Type 0 where
  pub path_is : file.path ≡ drop 6 path
  pub short : length file.path ≤ 1018
  pub fits : file_weight file ≤ left

-- all files, where together they are not too heavy for a package
abbrev pub light : List FileItem → Option (List FileItem)
light files = if nat_lt most_weight (weight_of files) then None else Some files
