-- The jobs of a tree and its base root, whatever limits a plan has (docs/DEFINITIONS.md, "The jobs of a tree").
use Rattle.std.specs.Prelude.{ℕ, List, [], ◌∷◌, length, codes, is_some, if◌then◌else◌}
use Rattle.std.specs.declared.option.Option.{Option}
use Rattle.std.specs.declared.option.Option.TheVariants.{None, Some}
use Rattle.std.specs.Option.{option_map, option_map_or, option_and_then}
use Rattle.std.specs.Result.{is_ok, result_ok}
use Rattle.std.specs.List.{list_any, filter_map, range_with_len}
use Rattle.std.specs.FinMap.{get}
use Rattle.bulk_base.specs.declared.file.FileItem.{FileItem}
use Rattle.bulk_model.specs.declared.depend.Depend.{Depend}
use Rattle.bulk_model.specs.Files.{files_in}
use Rattle.bulk_model.specs.Views.{JobView}
use Rattle.outside.specs.Contents.{Contents}
use Rattle.dist_files.specs.declared.dist.Dist.{Dist}
use Rattle.dist_files.specs.Checked.{checked}
use Rattle.dist_files.specs.Distinfo.{distinfo_of}
use Rattle.tree_index.specs.declared.node.NodeInfo.{NodeInfo}
use Rattle.tree_index.specs.Depends.{depends_of}
use Rattle.tree_index.specs.Index.{IndexView}
use Rattle.tree_index.specs.Places.{files_folder, distinfo_file}
use Rattle.job_files.specs.Distfiles.{tree_path, job_path, is_kept_for_dist, together}
use Rattle.job_files.specs.Gathered.{file}
use Rattle.plan_maker.specs.Jobs.{node_at, job_with}

-- the files below a port's `files/`
abbrev pub own_files : Contents → NodeInfo → List FileItem
own_files content node = files_in (files_folder node.origin) content

-- a distfile with these bytes, where they are the ones that are stated
abbrev pub stated_file : Dist → List ℕ → Option FileItem
stated_file dist bytes = if is_ok (checked dist bytes) then Some (file (job_path dist.file) bytes) else None

-- a distfile of the tree, where it is there and is the one that is stated
abbrev pub dist_file : Contents → Dist → Option FileItem
dist_file content dist = option_and_then (stated_file dist) (get content (tree_path dist.file))

-- what each gives, where each gives something
abbrev pub all_given : {A B : Type 0} → (A → Option B) → List A → Option (List B)
all_given give [] = Some []
all_given give (a ∷ more) = option_and_then (λ b. option_map (λ found. b ∷ found) (all_given give more)) (give a)

-- a port's own files with the distfiles of entries
abbrev pub with_entries : Contents → List FileItem → List Dist → Option (List FileItem)
with_entries content own dists =
    if list_any (λ file. is_kept_for_dist file.path) own then None
    else option_map (together own) (all_given (dist_file content) dists)

-- the same with the distfiles of a list, which has these bytes
abbrev pub with_list : Contents → List FileItem → List ℕ → Option (List FileItem)
with_list content own bytes = option_and_then (with_entries content own) (result_ok (distinfo_of bytes))

-- the files of the job of a node that is not ignored
abbrev pub files_by_tree : Contents → NodeInfo → Option (List FileItem)
files_by_tree content node =
    option_map_or (with_list content (own_files content node)) (get content (distinfo_file node.origin))
    (Some (own_files content node))

abbrev pub job_by_tree : Contents → NodeInfo → List Depend → Option JobView
job_by_tree content node depends = option_map (job_with node depends) (files_by_tree content node)

-- the job of the node of a number: none where it is ignored or a dependency leads to no node
unfoldable pub tree_job : Contents → IndexView → ℕ → Option JobView
tree_job content index n =
    if is_some (node_at index n).ignored then None
    else option_and_then (job_by_tree content (node_at index n)) (depends_of index n)

-- in node order
unfoldable pub tree_jobs : Contents → IndexView → List JobView
tree_jobs content index = filter_map (tree_job content index) (range_with_len 0 (length index.nodes))

-- the base root
abbrev pub tree_base : Contents → List FileItem
tree_base content = files_in (codes "base") content
