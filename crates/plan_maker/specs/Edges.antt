-- Edges by numbers that nodes are given, and nodes that have with each all that it leads to.
use Rattle.std.specs.Prelude.{ℕ, ◌<◌, ◌^◌, List, [], length, map, slice_index}
use Rattle.std.specs.Option.{unwrap_or}
use Rattle.std.specs.List.{All}
use Rattle.std.specs.List.Sorted.{IsStrictlyIncreasing}
use Rattle.bulk_model.specs.declared.plan.Edge.{Edge}
use Rattle.dep_graph.specs.Graphs.{has, depends_at}
use Rattle.dep_graph.specs.Reached.{IsClosed}
use Rattle.tree_index.specs.Depends.{edges_of}
use Rattle.tree_index.specs.Index.{IndexView}
use Rattle.plan_maker.specs.Needed.{needs}

abbrev pub edge_by : List ℕ → Edge → Edge
edge_by places edge = record { kind = edge.kind; to = slice_index places edge.to }

abbrev pub edges_by : IndexView → List ℕ → ℕ → List Edge
edges_by index places n = map (edge_by places) (unwrap_or (edges_of index n) [])

-- nodes of the tree in order, each once, and with each all that it leads to
pub record AreNeeded (index : IndexView) (nodes : List ℕ) : Type 0 where
  pub order : IsStrictlyIncreasing nodes
  pub few : length nodes < 2 ^ 32
  pub within : All (λ n. n < length index.nodes) nodes
  pub closed : IsClosed (depends_at (needs index)) (length index.nodes) (has nodes)
