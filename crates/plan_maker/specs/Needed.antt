-- The needed nodes of a plan: those that are wanted and all that they lead to (docs/DEFINITIONS.md, "The needed nodes").
use Rattle.std.specs.Prelude.{ℕ, List, [], map, is_some, if◌then◌else◌}
use Rattle.std.specs.declared.option.Option.{Option}
use Rattle.std.specs.declared.option.Option.TheVariants.{None, Some}
use Rattle.std.specs.Option.{option_map}
use Rattle.std.specs.List.{filter_map}
use Rattle.bulk_model.specs.declared.plan.Edge.{Edge}
use Rattle.dep_graph.specs.Reached.{reach}
use Rattle.tree_index.specs.declared.node.NodeInfo.{NodeInfo}
use Rattle.tree_index.specs.declared.node.At.{At}
use Rattle.tree_index.specs.declared.node.At.TheVariants.{Node, Nowhere, Moved}
use Rattle.tree_index.specs.declared.node.Target.{Target}
use Rattle.tree_index.specs.Depends.{edge_to}
use Rattle.tree_index.specs.Index.{IndexView}

-- the number of the node that a dependency leads to, if it leads to one
abbrev pub node_number : At → Option ℕ
node_number (Node n) = Some n
node_number (Nowhere name) = None
node_number (Moved old new) = None

abbrev pub edge_of : Target → Option Edge
edge_of target = option_map (edge_to target.kind) (node_number target.at)

-- what a node leads to: nothing where it is ignored
abbrev pub needs_of : NodeInfo → List Edge
needs_of node = if is_some node.ignored then [] else filter_map edge_of node.targets

-- the same of all nodes
abbrev pub needs : IndexView → List (List Edge)
needs index = map needs_of index.nodes

-- in node order
unfoldable pub needed : IndexView → List ℕ → List ℕ
needed index wanted = reach (needs index) wanted
