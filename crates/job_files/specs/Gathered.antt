-- Files that are gathered, and the bytes that were counted: those of all jobs so far (docs/FORMATS.md, "Limits").
use Rattle.std.specs.Prelude.{ℕ, ◌+◌, nat_le, List, [], ◌∷◌, ◌++◌, length, if◌then◌else◌}
use Rattle.std.specs.declared.result.Result.{Result}
use Rattle.std.specs.declared.result.Result.TheVariants.{Ok, Err}
use Rattle.bulk_base.specs.declared.file.FileItem.{FileItem}
use Rattle.bulk_model.specs.declared.which.Which.TheVariants.{FileBytes, JobBytes}
use Rattle.bulk_model.specs.Limits.{most}
use Rattle.job_files.specs.declared.fault.PlanError.{PlanError}
use Rattle.job_files.specs.declared.fault.PlanError.TheVariants.{Limit}
use Rattle.job_files.specs.declared.gathered.Gathered.{Gathered}

-- no file yet, where so many bytes were counted before
abbrev pub nothing_yet : ℕ → Gathered
nothing_yet bytes = record { files = []; bytes = bytes }

abbrev pub file : List ℕ → List ℕ → FileItem
file path bytes = record { path = path; bytes = bytes }

-- one file more
abbrev pub with_one : Gathered → List ℕ → List ℕ → Gathered
with_one gathered path bytes = record { files = gathered.files ++ file path bytes ∷ []; bytes = gathered.bytes + length bytes }

-- the sum at the file at which it passes the limit
abbrev pub counted : Gathered → Result Gathered PlanError
counted gathered =
    if nat_le gathered.bytes (most JobBytes) then Ok gathered else Err (Limit JobBytes gathered.bytes)

-- a file that is too long is not counted: no more of it is read than one byte past the limit
abbrev pub too_long : {X : Type 0} → Result X PlanError
too_long = Err (Limit FileBytes (most FileBytes + 1))
