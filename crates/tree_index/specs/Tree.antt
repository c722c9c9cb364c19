-- The nodes of a ports tree (docs/FORMATS.md, "The tree folder").
use Rattle.std.specs.Prelude.{ℕ, ◌+◌, ◌*◌, Bool, nat_le, List, [], ◌∷◌, ◌++◌, length, find, bytes_eq, if◌then◌else◌}
use Rattle.std.specs.List.{fold}
use Rattle.std.specs.declared.option.Option.{Option}
use Rattle.std.specs.declared.option.Option.TheVariants.{None, Some}
use Rattle.std.specs.Option.{option_map_or}
use Rattle.std.specs.declared.result.Result.{Result}
use Rattle.std.specs.declared.result.Result.TheVariants.{Ok, Err}
use Rattle.std.specs.Ordering.{nat_cmp}
use Rattle.std.specs.Cmp.Lexicographic.{slice_cmp}
use Rattle.std.specs.FinMap as finite
use Rattle.bulk_model.specs.declared.which.Which.TheVariants.{Nodes, VarsBytes, FileBytes}
use Rattle.bulk_model.specs.Limits.{most}
use Rattle.outside.specs.Contents.{Contents}
use Rattle.port_vars.specs.Assignment.{◌>>=◌, mapped}
use Rattle.port_name.specs.declared.place.Origin.{Origin}
use Rattle.conf_file.specs.declared.make.MakeConf.{MakeConf}
use Rattle.moved_list.specs.declared.line.MovedLine.{MovedLine}
use Rattle.moved_list.specs.Moved.{moved_of}
use Rattle.tree_index.specs.declared.fault.IndexError.{IndexError}
use Rattle.tree_index.specs.declared.fault.IndexError.TheVariants.{Limit, DupName}
use Rattle.tree_index.specs.declared.node.NodeInfo.{NodeInfo}
use Rattle.tree_index.specs.declared.found.Found.{Found}
use Rattle.tree_index.specs.Places.{categories_file, moved_file, ports_file, port_file}
use Rattle.tree_index.specs.Faults.{moved_fault, refused_as}
use Rattle.tree_index.specs.VarFiles.{listed_in, size_at}
use Rattle.tree_index.specs.PortNodes.{port_nodes}

-- the most bytes of a file of the tree that has no bound of its own
abbrev pub most_file_bytes : ℕ
most_file_bytes = 4194304

-- what a MOVED of at most so many bytes says
abbrev pub moved_within : ℕ → List ℕ → Result (List MovedLine) IndexError
moved_within most bytes =
    if nat_le (length bytes) most then refused_as (moved_fault moved_file) (moved_of bytes)
    else Err (Limit FileBytes (most + 1))

-- what MOVED says; more is not read than one byte past the most
unfoldable pub moved_in : List ℕ → Result (List MovedLine) IndexError
moved_in bytes = moved_within most_file_bytes bytes

-- what the tree's MOVED says, nothing where it is absent, or its refusal
abbrev pub moved_at : Contents → Result (List MovedLine) IndexError
moved_at content = option_map_or moved_in (finite.get content moved_file) (Ok [])

-- names taken one after another, each from what those before it gave, or the first refusal
abbrev pub each_in_turn : {X E : Type 0} → (X → List ℕ → Result X E) → X → List (List ℕ) → Result X E
each_in_turn step found [] = Ok found
each_in_turn step found (name ∷ more) = do
  next ← step found name
  each_in_turn step next more

-- nodes behind those found, and the bytes of their description, counted once for each of them
abbrev pub with_nodes : Found → List NodeInfo → ℕ → Found
with_nodes found nodes size = record { nodes = found.nodes ++ nodes; bytes = found.bytes + length nodes * size }

-- no more bytes of descriptions than may be counted
abbrev pub counted : Found → Result Found IndexError
counted found = if nat_le found.bytes (most VarsBytes) then Ok found else Err (Limit VarsBytes found.bytes)

-- what is found with the nodes of one more port, or the port's refusal, or that its bytes pass the limit
abbrev pub with_port : MakeConf → Bool → Contents → Found → Origin → Result Found IndexError
with_port make try_broken content found origin = do
  nodes ← port_nodes make try_broken content origin
  counted (with_nodes found nodes (size_at content (port_file origin)))

-- what is found with the nodes of a category's ports, one port after another, or the first refusal
abbrev pub with_ports : MakeConf → Bool → Contents → List ℕ → Found → List (List ℕ) → Result Found IndexError
with_ports make try_broken content category found ports =
    each_in_turn (λ found port. with_port make try_broken content found (record { category = category; port = port })) found ports

-- what is found with the nodes of a category, or the first refusal: its list stands before its ports
unfoldable pub with_category : MakeConf → Bool → Contents → Found → List ℕ → Result Found IndexError
with_category make try_broken content found category = do
  ports ← listed_in content (ports_file category)
  with_ports make try_broken content category found ports

abbrev pub nothing_found : Found
nothing_found = record { nodes = []; bytes = 0 }

-- the nodes of categories, one category after another, or the first refusal
abbrev pub nodes_of_categories : MakeConf → Bool → Contents → List (List ℕ) → Result (List NodeInfo) IndexError
nodes_of_categories make try_broken content categories =
    mapped (λ found. found.nodes) (each_in_turn (with_category make try_broken content) nothing_found categories)

-- a finite map from names to nodes
abbrev pub NodeMap : Type 0
NodeMap = finite.FinMap (slice_cmp nat_cmp) NodeInfo

-- nodes by their names
abbrev pub by_name : List NodeInfo → NodeMap
by_name nodes = fold (λ map node. finite.insert map node.node node) finite.empty nodes

-- nodes in the byte order of their names
unfoldable pub ordered : List NodeInfo → List NodeInfo
ordered nodes = finite.values (by_name nodes)

-- no more nodes than may be counted
unfoldable pub few : List NodeInfo → Result (List NodeInfo) IndexError
few nodes = if nat_le (length nodes) (most Nodes) then Ok nodes else Err (Limit Nodes (length nodes))

-- two nodes have packages of one name
abbrev pub are_twins : NodeInfo → NodeInfo → Bool
are_twins a b = bytes_eq a.desc.name b.desc.name

-- the least node that shares its package's name with a later one, and the least such
abbrev pub first_twins : List NodeInfo → Option (NodeInfo × NodeInfo)
first_twins [] = None
first_twins (node ∷ more) = elim (find (are_twins node) more) [
  | Some other ↦ Some (node, other)
  | None ↦ first_twins more
]

-- nodes no two of which have packages of one name
abbrev pub apart : List NodeInfo → Result (List NodeInfo) IndexError
apart nodes = elim (first_twins nodes) [
  | None ↦ Ok nodes
  | Some twins ↦ Err (DupName twins.0.node twins.1.node twins.0.desc.name)
]

-- what a tree holds before it is known where dependencies lead: what MOVED says, and the nodes in order
abbrev pub Listed : Type 0
Listed = List MovedLine × List NodeInfo

-- nodes in the byte order of their names, or why they make no index
abbrev pub accepted : List NodeInfo → Result (List NodeInfo) IndexError
accepted nodes = do
  kept ← few (ordered nodes)
  apart kept

-- the nodes of a tree with these categories
abbrev pub nodes_in : MakeConf → Bool → Contents → List (List ℕ) → Result (List NodeInfo) IndexError
nodes_in make try_broken content categories = do
  nodes ← nodes_of_categories make try_broken content categories
  accepted nodes

-- the nodes of a tree, or the first refusal in the order of the files
unfoldable pub tree_nodes : MakeConf → Bool → Contents → Result Listed IndexError
tree_nodes make try_broken content = do
  categories ← listed_in content categories_file
  moved ← moved_at content
  nodes ← nodes_in make try_broken content categories
  Ok (moved, nodes)
