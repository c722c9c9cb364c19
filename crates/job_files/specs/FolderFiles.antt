-- The files below a folder of the tree, each with the folder taken off its path.
use Rattle.std.specs.Prelude.{ℕ, nat_le, List, length, if◌then◌else◌}
use Rattle.std.specs.Option.{option_map_or}
use Rattle.std.specs.declared.result.Result.{Result}
use Rattle.std.specs.declared.result.Result.TheVariants.{Ok, Err}
use Rattle.std.specs.FinMap.{get}
use Rattle.bulk_model.specs.declared.which.Which.TheVariants.{FileBytes}
use Rattle.bulk_model.specs.Limits.{most}
use Rattle.outside.specs.Contents.{Contents, files_below}
use Rattle.path_laws.specs.Laws.{rest_of}
use Rattle.job_files.specs.declared.fault.PlanError.{PlanError}
use Rattle.job_files.specs.declared.gathered.Gathered.{Gathered}
use Rattle.job_files.specs.Gathered.{nothing_yet, with_one, counted, too_long}
use Rattle.job_files.specs.Turns.{in_turn}

-- a file's bytes are put to those gathered: its own length is looked at before the sum
abbrev pub with_bytes : Gathered → List ℕ → List ℕ → Result Gathered PlanError
with_bytes gathered path bytes =
    if nat_le (length bytes) (most FileBytes) then counted (with_one gathered path bytes) else too_long

-- a file of the folder is put to those gathered, where it is there
abbrev pub with_file : List ℕ → Contents → Gathered → List ℕ → Result Gathered PlanError
with_file folder content gathered path =
    option_map_or (with_bytes gathered (rest_of folder path)) (get content path) (Ok gathered)

-- in byte order of their paths, or the first refusal; so many bytes were counted before
abbrev pub folder_files : Contents → List ℕ → ℕ → Result Gathered PlanError
folder_files content folder bytes = in_turn (with_file folder content) (nothing_yet bytes) (files_below folder content)
