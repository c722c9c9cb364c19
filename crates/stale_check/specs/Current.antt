-- What a package without an own reason has to do with its node.
use Rattle.std.specs.Prelude.{◌≡◌, ℕ, false, List, map, is_some, slice_get, slice_index_or}
use Rattle.std.specs.declared.option.Option.TheVariants.{None, Some}
use Rattle.bulk_model.specs.Views.{PackageView, need_of}
use Rattle.bulk_model.specs.declared.digest.Recipes.{Recipes}
use Rattle.dep_graph.specs.Graphs.{has}
use Rattle.tree_index.specs.Depends.{depends_of}
use Rattle.tree_index.specs.Index.{IndexView}
use Rattle.tree_index.specs.declared.node.NodeInfo.{NodeInfo}
use Rattle.stale_check.specs.Own.{number_of, own}

-- the package is the one that the node of a number would have, but for its files and the records that it was built with
pub record IsCurrent (index : IndexView) (asked : List ℕ) (recipes : Recipes) (p : PackageView) (n : ℕ)
    (node : NodeInfo) : Type 0 where
  pub number : number_of index.nodes p ≡ Some n
  pub there : slice_get index.nodes n ≡ Some node
  pub unasked : has asked n ≡ false
  pub allowed : is_some node.ignored ≡ false
  pub name : p.name ≡ node.desc.name
  pub options : p.options ≡ node.options
  pub depends : depends_of index n ≡ Some (map need_of p.depends)
  pub recipe : slice_index_or recipes.digests n None ≡ Some p.recipe

-- a package without an own reason is such a one
abbrev pub NoReasonIsCurrent : Type 0
NoReasonIsCurrent =
    (index : IndexView) (asked : List ℕ) (recipes : Recipes) (p : PackageView)
    → own index asked recipes p ≡ None
    → (n : ℕ) × (node : NodeInfo) × IsCurrent index asked recipes p n node
