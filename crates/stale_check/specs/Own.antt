-- Why a package goes by itself (docs/FORMATS.md, "Stale packages").
use Rattle.std.specs.Prelude.{ℕ, Bool, false, not, ◌&&◌, ◌==◌, List, position, bytes_eq, is_some, slice_get, slice_index_or, if◌then◌else◌}
use Rattle.std.specs.declared.option.Option.{Option}
use Rattle.std.specs.declared.option.Option.TheVariants.{None, Some}
use Rattle.std.specs.Option.{option_map_or, option_or, option_and_then}
use Rattle.std.specs.Cmp.Lexicographic.{pointwise}
use Rattle.bulk_base.specs.declared.file.Switch.{Switch}
use Rattle.bulk_model.specs.Digests.{is_same}
use Rattle.bulk_model.specs.Facts.{kind_number}
use Rattle.bulk_model.specs.Views.{PackageView, node_of_package}
use Rattle.bulk_model.specs.declared.depend.Depend.{Depend}
use Rattle.bulk_model.specs.declared.depend.Recorded.{Recorded}
use Rattle.bulk_model.specs.declared.digest.Recipes.{Recipes}
use Rattle.bulk_model.specs.declared.reason.Reason.{Reason}
use Rattle.bulk_model.specs.declared.reason.Reason.TheVariants.{Asked, NoPort, Ignored, NewName, NewOptions, NewDepends, NewRecipe}
use Rattle.dep_graph.specs.Graphs.{has}
use Rattle.tree_index.specs.Depends.{depends_of}
use Rattle.tree_index.specs.Index.{IndexView}
use Rattle.tree_index.specs.declared.node.NodeInfo.{NodeInfo}

-- the number of the node of the tree that a package was built for, if the tree has it
abbrev pub number_of : List NodeInfo → PackageView → Option ℕ
number_of nodes p = position (λ node. bytes_eq (node_of_package p) node.node) nodes

-- the same option in the same state
abbrev pub is_same_option : Switch → Switch → Bool
is_same_option a b = bytes_eq a.name b.name && (if a.on then b.on else not b.on)

-- a recorded dependency is one of the node's, whatever record it was built with
abbrev pub is_need : Recorded → Depend → Bool
is_need recorded depend =
    (kind_number recorded.kind == kind_number depend.kind)
    && (bytes_eq recorded.node depend.node && bytes_eq recorded.name depend.name)

-- the node depends on just what the package records; no package does where an entry of the node reaches no node
abbrev pub has_depends : IndexView → PackageView → ℕ → Bool
has_depends index p n = option_map_or (pointwise is_need p.depends) (depends_of index n) false

-- the node has a recipe, and it is the package's
abbrev pub has_recipe : Recipes → PackageView → ℕ → Bool
has_recipe recipes p n =
    option_map_or (is_same p.recipe) (slice_index_or recipes.digests n None) false

-- of a package for a node, the first that holds of the reasons that need neither the node's dependencies nor its recipe
abbrev pub early_reason : Bool → NodeInfo → PackageView → Option Reason
early_reason is_asked node p =
    if is_asked then Some Asked
    else if is_some node.ignored then Some Ignored
    else if not (bytes_eq p.name node.desc.name) then Some NewName
    else if not (pointwise is_same_option p.options node.options) then Some NewOptions
    else None

-- the first of the others
abbrev pub late_reason : IndexView → Recipes → PackageView → ℕ → Option Reason
late_reason index recipes p n =
    if not (has_depends index p n) then Some NewDepends
    else if not (has_recipe recipes p n) then Some NewRecipe
    else None

-- the first that holds, of a package for the node of a number
abbrev pub reason_of : IndexView → List ℕ → Recipes → PackageView → ℕ → NodeInfo → Option Reason
reason_of index asked recipes p n node =
    option_or (early_reason (has asked n) node p) (late_reason index recipes p n)

unfoldable pub reason_at : IndexView → List ℕ → Recipes → PackageView → ℕ → Option Reason
reason_at index asked recipes p n =
    option_and_then (reason_of index asked recipes p n) (slice_get index.nodes n)

-- the own reason of a package; no port is at its node where the tree has no such node
unfoldable pub own : IndexView → List ℕ → Recipes → PackageView → Option Reason
own index asked recipes p =
    option_map_or (reason_at index asked recipes p) (number_of index.nodes p) (Some NoPort)
