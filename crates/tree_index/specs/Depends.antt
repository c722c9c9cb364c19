-- What a node of an index depends on (Porter's Handbook, "Dependencies"): each pair of kind and node once, by kind in the order of
-- the dependency variables, then by node.
use Rattle.std.specs.Prelude.{ℕ, Bool, true, false, ◌==◌, ◌&&◌, List, [], ◌∷◌, length, map, filter, is_some, slice_get, slice_index_or, if◌then◌else◌}
use Rattle.std.specs.declared.option.Option.{Option}
use Rattle.std.specs.declared.option.Option.TheVariants.{None, Some}
use Rattle.std.specs.Option.{option_map, option_and_then}
use Rattle.std.specs.List.{list_all, list_any, flat_map, range_with_len}
use Rattle.std.specs.Ordering.{nat_cmp}
use Rattle.std.specs.BTreeSet.{insert_key}
use Rattle.bulk_model.specs.Facts.{kind_number}
use Rattle.bulk_model.specs.declared.depend.DepKind.{DepKind}
use Rattle.bulk_model.specs.declared.depend.DepKind.TheVariants.{Pkg, Fetch, Extract, Patch, Build, Lib, Run}
use Rattle.bulk_model.specs.declared.depend.Depend.{Depend}
use Rattle.bulk_model.specs.declared.plan.Edge.{Edge}
use Rattle.tree_index.specs.declared.node.NodeInfo.{NodeInfo}
use Rattle.tree_index.specs.declared.node.At.{At}
use Rattle.tree_index.specs.declared.node.At.TheVariants.{Node, Nowhere, Moved}
use Rattle.tree_index.specs.declared.node.Target.{Target}
use Rattle.tree_index.specs.Index.{IndexView}

-- the kinds, in the order of the dependency variables
abbrev pub kinds : List DepKind
kinds = Pkg ∷ Fetch ∷ Extract ∷ Patch ∷ Build ∷ Lib ∷ Run ∷ []

-- a target leads to a node
abbrev pub reaches_node : At → Bool
reaches_node (Node n) = true
reaches_node (Nowhere name) = false
reaches_node (Moved old new) = false

-- a target leads to the node of a number
abbrev pub leads_to : ℕ → At → Bool
leads_to n (Node m) = n == m
leads_to n (Nowhere name) = false
leads_to n (Moved old new) = false

-- a number, if there is one, is this
abbrev pub is_number : ℕ → Option ℕ → Bool
is_number n None = false
is_number n (Some m) = n == m

-- the node of a number is needed by a target of a kind
abbrev pub is_needed : DepKind → ℕ → Target → Bool
is_needed kind n target = (kind_number target.kind == kind_number kind) && leads_to n target.at

-- numbers in order with one more, if there is one
abbrev pub with_number : List ℕ → Option ℕ → List ℕ
with_number numbers None = numbers
with_number numbers (Some n) = insert_key nat_cmp numbers n

-- the numbers of the nodes, of so many, that are needed by targets of a kind
abbrev pub numbers_of : ℕ → List Target → DepKind → List ℕ
numbers_of count targets kind = filter (λ n. list_any (is_needed kind n) targets) (range_with_len 0 count)

abbrev pub edge_to : DepKind → ℕ → Edge
edge_to kind n = record { kind = kind; to = n }

-- all that targets need
abbrev pub edges_by : ℕ → List Target → List Edge
edges_by count targets = flat_map (λ kind. map (edge_to kind) (numbers_of count targets kind)) kinds

-- what a node depends on, of so many nodes: nothing where it is ignored; not told where a target of another leads to no node
abbrev pub edges_from : ℕ → NodeInfo → Option (List Edge)
edges_from count node =
    if is_some node.ignored then Some []
    else if list_all (λ target. reaches_node target.at) node.targets then Some (edges_by count node.targets)
    else None

-- what the node of a number depends on
unfoldable pub edges_of : IndexView → ℕ → Option (List Edge)
edges_of index n = option_and_then (edges_from (length index.nodes)) (slice_get index.nodes n)

-- the name of the node of a number
abbrev pub name_at : List NodeInfo → ℕ → List ℕ
name_at nodes n = slice_index_or (map (λ node. node.node) nodes) n []

-- the name of its package
abbrev pub package_at : List NodeInfo → ℕ → List ℕ
package_at nodes n = slice_index_or (map (λ node. node.desc.name) nodes) n []

-- a dependency as a job and a package list it
abbrev pub depend_on : List NodeInfo → Edge → Depend
depend_on nodes edge = record { kind = edge.kind; node = name_at nodes edge.to; name = package_at nodes edge.to }

-- the same of all that the node of a number depends on
unfoldable pub depends_of : IndexView → ℕ → Option (List Depend)
depends_of index n = option_map (map (depend_on index.nodes)) (edges_of index n)
