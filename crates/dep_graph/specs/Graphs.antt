-- A graph of dependencies: for each node, which is a number, the list of its dependencies.
use Rattle.std.specs.Prelude.{ℕ, Bool, ◌==◌, ◌<◌, ◌^◌, List, [], length, map, slice_index_or}
use Rattle.std.specs.List.{list_any, count_by, range_with_len, All}
use Rattle.bulk_model.specs.declared.plan.Edge.{Edge}

-- the dependencies of a node, in the order of its edges
abbrev pub edges_at : List (List Edge) → ℕ → List Edge
edges_at graph n = slice_index_or graph n []

abbrev pub targets : List Edge → List ℕ
targets edges = map (λ edge. edge.to) edges

abbrev pub depends_at : List (List Edge) → ℕ → List ℕ
depends_at graph n = targets (edges_at graph n)

abbrev pub nodes_of : List (List Edge) → List ℕ
nodes_of graph = range_with_len 0 (length graph)

abbrev pub has : List ℕ → ℕ → Bool
has numbers n = list_any (λ number. n == number) numbers

-- how often a number is in a list
abbrev pub times : List ℕ → ℕ → ℕ
times numbers n = count_by (λ number. n == number) numbers

-- all edges go to nodes
abbrev pub IsWithin : ℕ → List (List Edge) → Type 0
IsWithin count graph = All (λ edges. All (λ edge. edge.to < count) edges) graph

pub record IsGraph (graph : List (List Edge)) : Type 0 where
  pub few : length graph < 2 ^ 32
  pub within : IsWithin (length graph) graph
