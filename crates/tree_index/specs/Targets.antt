-- Where the dependencies of nodes lead (docs/FORMATS.md, "A port's description", "MOVED").
use Rattle.std.specs.Prelude.{ℕ, Bool, ◌||◌, ◌&&◌, List, [], ◌∷◌, map, position, bytes_eq}
use Rattle.std.specs.List.{flat_map}
use Rattle.std.specs.declared.option.Option.{Option}
use Rattle.std.specs.declared.option.Option.TheVariants.{None, Some}
use Rattle.moved_list.specs.declared.line.MovedLine.{MovedLine}
use Rattle.moved_list.specs.declared.chain.Follow.{Follow}
use Rattle.moved_list.specs.declared.chain.Follow.TheVariants as follow
use Rattle.moved_list.specs.Walk.{leads_to}
use Rattle.port_desc.specs.declared.entry.Entry.{Entry}
use Rattle.tree_index.specs.declared.node.NodeInfo.{NodeInfo}
use Rattle.tree_index.specs.declared.node.At.{At}
use Rattle.tree_index.specs.declared.node.At.TheVariants.{Node, Nowhere, Moved}
use Rattle.tree_index.specs.declared.node.Target.{Target}
use Rattle.tree_index.specs.Places.{origin_name}

-- a name means a node: it is the node's own, or the origin of the port whose default the node is
abbrev pub is_meant : List ℕ → NodeInfo → Bool
is_meant name node = bytes_eq name node.node || (node.is_default && bytes_eq name (origin_name node.origin))

-- the number of the node that a name means
abbrev pub number_in : List NodeInfo → List ℕ → Option ℕ
number_in nodes name = position (is_meant name) nodes

-- all names of nodes and of their ports
abbrev pub names_of : List NodeInfo → List (List ℕ)
names_of nodes = flat_map (λ node. node.node ∷ origin_name node.origin ∷ []) nodes

-- where a name that is no node's leads, by where MOVED leads it
abbrev pub moved_to : List ℕ → Follow → At
moved_to name (follow.At new) = Moved name new
moved_to name answer = Nowhere name

-- where a name leads: to the node that it means, else where MOVED leads it
abbrev pub destination : List NodeInfo → List MovedLine → List ℕ → At
destination nodes moved name = elim (number_in nodes name) [
  | Some n ↦ Node n
  | None ↦ moved_to name (leads_to (names_of nodes) moved name)
]

-- the target of an entry
abbrev pub target_of : List NodeInfo → List MovedLine → Entry → Target
target_of nodes moved entry = record { kind = entry.kind; at = destination nodes moved entry.target }

-- a node's targets, one for each of its entries
abbrev pub targets_of : List NodeInfo → List MovedLine → NodeInfo → List Target
targets_of nodes moved node = map (target_of nodes moved) node.desc.entries

-- a node with targets
abbrev pub with_targets : NodeInfo → List Target → NodeInfo
with_targets node targets = record {
  node = node.node;
  origin = node.origin;
  flavor = node.flavor;
  is_default = node.is_default;
  desc = node.desc;
  options = node.options;
  ignored = node.ignored;
  targets = targets;
}

-- all nodes with their targets
abbrev pub resolved : List NodeInfo → List MovedLine → List NodeInfo
resolved nodes moved = map (λ node. with_targets node (targets_of nodes moved node)) nodes
