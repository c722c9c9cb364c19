-- The distfiles that a port's list names (Porter's Handbook, "distinfo"; docs/FORMATS.md, "Distfiles").
use Rattle.std.specs.Prelude.{ℕ, ◌+◌, Bool, not, ◌||◌, nat_le, List, ◌++◌, length, filter, find, codes, bytes_eq, if◌then◌else◌}
use Rattle.std.specs.declared.option.Option.TheVariants.{None, Some}
use Rattle.std.specs.Option.{option_map_or}
use Rattle.std.specs.declared.result.Result.{Result}
use Rattle.std.specs.declared.result.Result.TheVariants.{Ok, Err}
use Rattle.std.specs.Ordering.{nat_cmp, is_lt}
use Rattle.std.specs.Cmp.Lexicographic.{slice_cmp}
use Rattle.bulk_base.specs.Path.{joined, is_below}
use Rattle.bulk_base.specs.declared.file.FileItem.{FileItem}
use Rattle.bulk_model.specs.declared.which.Which.TheVariants.{FileBytes, DistBytes}
use Rattle.bulk_model.specs.Limits.{most}
use Rattle.outside.specs.Contents.{Contents, first_bytes}
use Rattle.dist_files.specs.declared.dist.Dist.{Dist}
use Rattle.dist_files.specs.declared.fault.DistWhy.TheVariants.{Absent}
use Rattle.dist_files.specs.Checked.{checked}
use Rattle.dist_files.specs.Distinfo.{distinfo_of}
use Rattle.tree_index.specs.declared.fault.PortKind.TheVariants.{Reserved}
use Rattle.tree_index.specs.Faults.{refused_as}
use Rattle.job_files.specs.declared.fault.PlanError.{PlanError}
use Rattle.job_files.specs.declared.fault.PlanError.TheVariants.{BadPort, BadDist, Limit}
use Rattle.job_files.specs.declared.gathered.Gathered.{Gathered}
use Rattle.job_files.specs.Faults.{dist_fault}
use Rattle.job_files.specs.Gathered.{nothing_yet, with_one, counted, too_long}
use Rattle.job_files.specs.Turns.{in_turn}

-- the entries of a list, or why it is none
abbrev pub entries_in : List ℕ → List ℕ → Result (List Dist) PlanError
entries_in path bytes =
    if nat_le (length bytes) (most FileBytes) then refused_as (dist_fault path) (distinfo_of bytes) else too_long

-- where a distfile stands in the tree, and in a job
abbrev pub tree_path : List ℕ → List ℕ
tree_path file = joined (codes "distfiles") file

abbrev pub job_path : List ℕ → List ℕ
job_path file = joined (codes "dist") file

-- a path at which a job has its distfiles
abbrev pub is_kept_for_dist : List ℕ → Bool
is_kept_for_dist path = bytes_eq (codes "dist") path || is_below (codes "dist") path

-- none of a port's own files may stand there, where the port has a list
abbrev pub refuse_kept : List ℕ → List FileItem → Result (Unit {0}) PlanError
refuse_kept folder files = elim (find (λ file. is_kept_for_dist file.path) files) [
  | None ↦ Ok tt
  | Some file ↦ Err (BadPort (joined folder file.path) 0 Reserved)
]

-- a distfile's bytes are put to those gathered, where they are the ones that are stated
abbrev pub with_dist_bytes : List ℕ → Gathered → Dist → List ℕ → Result Gathered PlanError
with_dist_bytes node gathered dist bytes = elim (checked dist bytes) [
  | Ok good ↦ counted (with_one gathered (job_path dist.file) bytes)
  | Err why ↦ Err (BadDist node dist.file why)
]

-- no more of a distfile is read than one byte past its stated size
abbrev pub read_dist : Contents → List ℕ → Gathered → Dist → Result Gathered PlanError
read_dist content node gathered dist =
    option_map_or (with_dist_bytes node gathered dist)
    (first_bytes (dist.size + 1) (tree_path dist.file) content)
    (Err (BadDist node dist.file Absent))

-- a distfile is put to those gathered; its stated size is looked at before anything is read
abbrev pub with_dist : Contents → List ℕ → Gathered → Dist → Result Gathered PlanError
with_dist content node gathered dist =
    if nat_le dist.size (most DistBytes) then read_dist content node gathered dist
    else Err (Limit DistBytes dist.size)

-- in byte order of their names, or the first refusal; so many bytes were counted before
abbrev pub distfiles : Contents → List ℕ → ℕ → List Dist → Result Gathered PlanError
distfiles content node bytes dists = in_turn (with_dist content node) (nothing_yet bytes) dists

-- a path before those of distfiles, in byte order
abbrev pub comes_before_dist : FileItem → Bool
comes_before_dist file = is_lt (slice_cmp nat_cmp file.path (codes "dist/"))

-- a port's own files and its distfiles, in byte order of their paths
abbrev pub together : List FileItem → List FileItem → List FileItem
together files dists =
    filter comes_before_dist files ++ (dists ++ filter (λ file. not (comes_before_dist file)) files)
