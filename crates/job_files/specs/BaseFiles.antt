-- The files of the base root (docs/FORMATS.md, "The tree folder").
use Rattle.std.specs.Prelude.{ℕ, List, codes, if◌then◌else◌}
use Rattle.std.specs.declared.result.Result.{Result}
use Rattle.std.specs.declared.result.Result.TheVariants.{Ok, Err}
use Rattle.bulk_model.specs.PlanFacts.{is_reserved}
use Rattle.outside.specs.Contents.{Contents, files_below}
use Rattle.tree_index.specs.declared.fault.PortKind.TheVariants.{Reserved}
use Rattle.job_files.specs.declared.fault.PlanError.{PlanError}
use Rattle.job_files.specs.declared.fault.PlanError.TheVariants.{BadPort}
use Rattle.job_files.specs.declared.gathered.Gathered.{Gathered}
use Rattle.job_files.specs.Gathered.{nothing_yet}
use Rattle.path_laws.specs.Laws.{rest_of}
use Rattle.job_files.specs.FolderFiles.{with_file}
use Rattle.job_files.specs.Turns.{in_turn}

abbrev pub base_folder : List ℕ
base_folder = codes "base"

-- a file of the base root is put to those gathered; none may stand where a build puts its own
abbrev pub with_base_file : Contents → Gathered → List ℕ → Result Gathered PlanError
with_base_file content gathered path =
    if is_reserved (rest_of base_folder path) then Err (BadPort path 0 Reserved)
    else with_file base_folder content gathered path

-- in byte order of their paths, or the first refusal; so many bytes were counted before
unfoldable pub base_files : Contents → ℕ → Result Gathered PlanError
base_files content bytes = in_turn (with_base_file content) (nothing_yet bytes) (files_below base_folder content)
