-- Dependency orders, and what no loop holds up.
use Rattle.std.specs.Prelude.{◌≡◌, ℕ, zero, suc, Bool, false, ◌<◌, List, length, take, slice_index, nat_eq, IsTrue}
use Rattle.std.specs.List.{list_all, All, IsDistinct}
use Rattle.bulk_model.specs.declared.plan.Edge.{Edge}
use Rattle.dep_graph.specs.Graphs.{has, depends_at, nodes_of}

-- each node of the list comes once, behind all its dependencies
pub record IsInOrder (graph : List (List Edge)) (list : List ℕ) : Type 0 where
  pub nodes : All (λ n. n < length graph) list
  pub once : IsDistinct nat_eq list
  pub behind : (place : ℕ) → place < length list → All (λ d. IsTrue (has (take place list) d)) (depends_at graph (slice_index list place))

-- the same with all nodes
pub record IsDependencyOrder (graph : List (List Edge)) (list : List ℕ) : Type 0 where
  pub all : (n : ℕ) → n < length graph → IsTrue (has list n)
  pub in_order : IsInOrder graph list

-- a node is away after a number of rounds, where each round takes away the nodes all of whose dependencies are away
abbrev pub is_away : List (List Edge) → ℕ → ℕ → Bool
is_away graph zero n = false
is_away graph (suc rounds) n = list_all (is_away graph rounds) (depends_at graph n)

-- no loop holds the node up: as many rounds as there are nodes take it away
abbrev pub is_free : List (List Edge) → ℕ → Bool
is_free graph n = is_away graph (length graph) n

-- there is no loop
abbrev pub is_loopless : List (List Edge) → Bool
is_loopless graph = list_all (is_free graph) (nodes_of graph)

-- all the nodes that no loop holds up, and no others
pub record IsLooplessPart (graph : List (List Edge)) (list : List ℕ) : Type 0 where
  pub in_order : IsInOrder graph list
  pub free : (n : ℕ) → n < length graph → has list n ≡ is_free graph n
