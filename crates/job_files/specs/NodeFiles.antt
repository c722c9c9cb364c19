-- The files of a node's job: those below its port's `files/`, and its distfiles below `dist/` where the node is not ignored.
use Rattle.std.specs.Prelude.{ℕ, List, is_some, if◌then◌else◌}
use Rattle.std.specs.Option.{option_map_or}
use Rattle.std.specs.declared.result.Result.{Result}
use Rattle.std.specs.declared.result.Result.TheVariants.{Ok, Err}
use Rattle.std.specs.FinMap.{get}
use Rattle.outside.specs.Contents.{Contents}
use Rattle.port_vars.specs.Assignment.{◌>>=◌}
use Rattle.tree_index.specs.declared.node.NodeInfo.{NodeInfo}
use Rattle.dist_files.specs.declared.dist.Dist.{Dist}
use Rattle.tree_index.specs.Places.{files_folder, distinfo_file}
use Rattle.job_files.specs.declared.fault.PlanError.{PlanError}
use Rattle.job_files.specs.declared.gathered.Gathered.{Gathered}
use Rattle.job_files.specs.FolderFiles.{folder_files}
use Rattle.job_files.specs.Distfiles.{entries_in, refuse_kept, distfiles, together}

-- a port's own files with its distfiles
abbrev pub with_distfiles : Gathered → Gathered → Gathered
with_distfiles own dists = record { files = together own.files dists.files; bytes = dists.bytes }

-- the entries of its list; the list is looked at first, then the port's own files
abbrev pub list_beside : NodeInfo → Gathered → List ℕ → Result (List Dist) PlanError
list_beside node own bytes = do
  dists ← entries_in (distinfo_file node.origin) bytes
  free ← refuse_kept (files_folder node.origin) own.files
  Ok dists

-- a port's own files with the distfiles of its list, which has these bytes
abbrev pub by_list : Contents → NodeInfo → Gathered → List ℕ → Result Gathered PlanError
by_list content node own bytes = do
  dists ← list_beside node own bytes
  more ← distfiles content node.node own.bytes dists
  Ok (with_distfiles own more)

-- the same where the port has a list; a port without one has no distfiles
abbrev pub with_listed : Contents → NodeInfo → Gathered → Result Gathered PlanError
with_listed content node own =
    option_map_or (by_list content node own) (get content (distinfo_file node.origin)) (Ok own)

-- of an ignored node no distfiles are looked at
abbrev pub with_its_distfiles : Contents → NodeInfo → Gathered → Result Gathered PlanError
with_its_distfiles content node own = if is_some node.ignored then Ok own else with_listed content node own

-- the files of a node's job, or the first refusal; so many bytes were counted before
unfoldable pub node_files : Contents → NodeInfo → ℕ → Result Gathered PlanError
node_files content node bytes = do
  own ← folder_files content (files_folder node.origin) bytes
  with_its_distfiles content node own
