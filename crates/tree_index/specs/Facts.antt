-- What holds of every node of a ports tree, of the nodes of one port and of a whole tree, and of every index.
use Rattle.std.specs.Prelude.{◌≡◌, ℕ, Bool, true, false, ◌&&◌, ◌<◌, ◌^◌, List, length, map, filter, Result, IsTrue, IfSome, bytes_eq}
use Rattle.std.specs.List.{AllByRecursion, IsDistinct}
use Rattle.bulk_base.specs.Names.{IsPackageName, is_port_name, is_flavor, node_of}
use Rattle.outside.specs.Contents.{IsAscending}
use Rattle.outside.specs.Faults.{HasCauseBy}
use Rattle.bulk_model.specs.Facts.{IsOptionList}
use Rattle.port_name.specs.declared.place.Origin.{Origin}
use Rattle.port_name.specs.Sets.{is_among}
use Rattle.port_desc.specs.Dependencies.{AreEntries}
use Rattle.tree_index.specs.declared.fault.IndexError.{IndexError}
use Rattle.tree_index.specs.declared.fault.IndexError.TheVariants.{TreeFault}
use Rattle.tree_index.specs.declared.node.NodeInfo.{NodeInfo}
use Rattle.tree_index.specs.declared.node.At.{At}
use Rattle.tree_index.specs.declared.node.At.TheVariants.{Node, Nowhere, Moved}
use Rattle.tree_index.specs.declared.node.Target.{Target}
use Rattle.tree_index.specs.Places.{origin_name}
use Rattle.tree_index.specs.Targets.{names_of}

-- a category and a port in form
pub record IsPlace (origin : Origin) : Type 0 where
  pub category : IsTrue (is_port_name origin.category)
  pub port : IsTrue (is_port_name origin.port)

-- a node whose parts are in form
pub record IsNodeInfo (info : NodeInfo) : Type 0 where
  pub origin : IsPlace info.origin
  pub flavor : IfSome info.flavor (λ f. IsTrue (is_flavor f))
  pub spelled : info.node ≡ node_of (origin_name info.origin) info.flavor
  pub name : IsPackageName info.desc.name
  pub entries : AreEntries info.desc.entries
  pub options : IsOptionList info.options

-- the nodes of one port: each once, one of them the default
pub record ArePortNodes (origin : Origin) (nodes : List NodeInfo) : Type 0 where
  pub forms : AllByRecursion IsNodeInfo nodes
  pub origins : AllByRecursion (λ node. node.origin ≡ origin) nodes
  pub once : IsDistinct bytes_eq (map (λ node. node.node) nodes)
  pub one_default : length (filter (λ node. node.is_default) nodes) ≡ 1

-- the default node of a port
abbrev pub is_default_of : Origin → NodeInfo → Bool
is_default_of origin node = node.is_default && bytes_eq (origin_name origin) (origin_name node.origin)

-- the nodes of a tree: in byte order of their names, no two packages of one name, one default for each port
pub record AreTreeNodes (nodes : List NodeInfo) : Type 0 where
  pub forms : AllByRecursion IsNodeInfo nodes
  pub order : IsAscending (map (λ node. node.node) nodes)
  pub few : length nodes < 2 ^ 32
  pub apart : IsDistinct bytes_eq (map (λ node. node.desc.name) nodes)
  pub one_default : AllByRecursion (λ node. length (filter (is_default_of node.origin) nodes) ≡ 1) nodes

-- a place among so many nodes
abbrev pub IsAtWithin : ℕ → At → Type 0
IsAtWithin count (Node n) = n < count
IsAtWithin count (Nowhere name) = Unit {0}
IsAtWithin count (Moved old new) = Unit {0}

-- targets among so many nodes
abbrev pub AreWithin : ℕ → List Target → Type 0
AreWithin count targets = AllByRecursion (λ target. IsAtWithin count target.at) targets

-- an index: the nodes of a tree with targets among them, and just the names of nodes and ports
pub record IsIndex (nodes : List NodeInfo) (names : List (List ℕ)) : Type 0 where
  pub tree : AreTreeNodes nodes
  pub range : AllByRecursion (λ node. AreWithin (length nodes) node.targets) nodes
  pub known : (name : List ℕ) → is_among names name ≡ is_among (names_of nodes) name

abbrev pub is_tree_fault : IndexError → Bool
is_tree_fault TreeFault = true
is_tree_fault _ = false

-- the count of the tree's faults never falls, a fault is answered only where it rose, and any other answer leaves it
abbrev pub IsCaused : {X : Type 0} → ℕ → ℕ → Result X IndexError → Type 0
IsCaused before now result = HasCauseBy is_tree_fault before now result
