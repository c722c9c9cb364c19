-- The graph of a plan, whose nodes are numbered from 0 in node order.
use Rattle.std.specs.Prelude.{ℕ, ◌==◌, List, [], map, position}
use Rattle.std.specs.Option.{unwrap_or}
use Rattle.bulk_model.specs.declared.plan.Edge.{Edge}
use Rattle.tree_index.specs.Depends.{edges_of}
use Rattle.tree_index.specs.Index.{IndexView}

-- the number that a node of the tree has in a plan of some nodes
abbrev pub place_in : List ℕ → ℕ → ℕ
place_in nodes n = unwrap_or (position (λ node. node == n) nodes) 0

abbrev pub edge_in : List ℕ → Edge → Edge
edge_in nodes edge = record { kind = edge.kind; to = place_in nodes edge.to }

-- what a node depends on, in the plan's numbers
abbrev pub edges_in : IndexView → List ℕ → ℕ → List Edge
edges_in index nodes n = map (edge_in nodes) (unwrap_or (edges_of index n) [])

unfoldable pub plan_edges : IndexView → List ℕ → List (List Edge)
plan_edges index nodes = map (edges_in index nodes) nodes
