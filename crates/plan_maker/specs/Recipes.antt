-- The recipes of nodes (docs/DEFINITIONS.md, "The recipe").
use Rattle.std.specs.Prelude.{◌≡◌, ℕ, Bool, true, false, ◌<◌, List, length, map, is_some, slice_index_or, if◌then◌else◌}
use Rattle.std.specs.declared.option.Option.{Option}
use Rattle.std.specs.declared.option.Option.TheVariants.{None}
use Rattle.std.specs.Option.{option_map, option_and_then}
use Rattle.std.specs.Result.{result_ok}
use Rattle.std.specs.List.{range_with_len}
use Rattle.bulk_base.specs.declared.file.FileItem.{FileItem}
use Rattle.bulk_model.specs.declared.depend.Depend.{Depend}
use Rattle.bulk_model.specs.declared.digest.Digest.{Digest}
use Rattle.bulk_model.specs.Recipe.{recipe}
use Rattle.bulk_model.specs.Views.{JobView}
use Rattle.dep_graph.specs.Graphs.{has}
use Rattle.outside.specs.Contents.{Contents}
use Rattle.tree_index.specs.declared.node.NodeInfo.{NodeInfo}
use Rattle.tree_index.specs.Depends.{depends_of}
use Rattle.tree_index.specs.Index.{IndexView}
use Rattle.job_files.specs.NodeFiles.{node_files}
use Rattle.plan_maker.specs.Jobs.{node_at, job_with}

-- the job of a node by itself, where nothing is refused of its files
abbrev pub job_alone : Contents → NodeInfo → List Depend → Option JobView
job_alone content node depends =
    option_map (λ gathered. job_with node depends gathered.files) (result_ok (node_files content node 0))

-- the job of the node of a number: none where it is ignored or a dependency leads to no node
abbrev pub job_to_build : Contents → IndexView → ℕ → Option JobView
job_to_build content index n =
    if is_some (node_at index n).ignored then None
    else option_and_then (job_alone content (node_at index n)) (depends_of index n)

-- the recipe over a base root, where it is asked for
abbrev pub recipe_where : Contents → IndexView → List FileItem → Bool → ℕ → Option Digest
recipe_where content index base asked n =
    if asked then option_map (recipe base) (job_to_build content index n) else None

-- the same where the node is one of some nodes
abbrev pub recipe_at : Contents → IndexView → List FileItem → List ℕ → ℕ → Option Digest
recipe_at content index base nodes n = recipe_where content index base (has nodes n) n

-- one place for each node of the index
unfoldable pub recipes_in : Contents → IndexView → List FileItem → List ℕ → List (Option Digest)
recipes_in content index base nodes =
    map (recipe_at content index base nodes) (range_with_len 0 (length index.nodes))

-- a node that is asked for, is not ignored, and whose dependencies all lead to nodes
pub record MayHaveRecipe (index : IndexView) (asked : Bool) (n : ℕ) : Type 0 where
  pub asked_for : asked ≡ true
  pub built : is_some (node_at index n).ignored ≡ false
  pub whole : is_some (depends_of index n) ≡ true

-- no other has one, whatever the tree holds
abbrev pub HasOnlyAsked : IndexView → List ℕ → List (Option Digest) → Type 0
HasOnlyAsked index nodes digests =
    (n : ℕ) → n < length index.nodes → is_some (slice_index_or digests n None) ≡ true
    → MayHaveRecipe index (has nodes n) n
