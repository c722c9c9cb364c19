-- The loop of a graph of dependencies.
use Rattle.std.specs.Prelude.{ℕ, Bool, not, ◌+◌, ◌<◌, ◌≤◌, List, length, filter, slice_index, slice_index_or, nat_eq, IsTrue}
use Rattle.std.specs.Option.{unwrap_or}
use Rattle.std.specs.List.{All, IsDistinct}
use Rattle.bulk_model.specs.declared.plan.Edge.{Edge}
use Rattle.dep_graph.specs.Graphs.{has, depends_at, nodes_of}
use Rattle.dep_graph.specs.Order.{is_free, IsDependencyOrder}
use Rattle.bulk_base.specs.Least.{least}
use Rattle.loop_report.specs.Walks.{loop_from}

-- a node stays where nodes all of whose dependencies are away are taken away, as often as there are nodes
abbrev pub stays : List (List Edge) → ℕ → Bool
stays graph n = not (is_free graph n)

-- from a node the least of its dependencies that are among some nodes; the node itself where none is
abbrev pub next_among : (ℕ → Bool) → List (List Edge) → ℕ → ℕ
next_among is_among graph n = unwrap_or (least (filter is_among (depends_at graph n))) n

-- the walk goes to the least dependency that stays
abbrev pub next : List (List Edge) → ℕ → ℕ
next graph n = next_among (stays graph) graph n

-- the repeated part of the walk from the least node that stays, turned to begin at its least node; empty where no node stays
abbrev pub exact_loop : List (List Edge) → List ℕ
exact_loop graph = loop_from (next graph) (length graph) (least (filter (stays graph) (nodes_of graph)))

-- nodes each of which depends on the one behind it, and the last on the first, which is the least
pub record IsLoop (graph : List (List Edge)) (nodes : List ℕ) : Type 0 where
  pub some : 0 < length nodes
  pub within : All (λ n. n < length graph) nodes
  pub once : IsDistinct nat_eq nodes
  pub round : (place : ℕ) → place < length nodes → IsTrue (has (depends_at graph (slice_index nodes place)) (slice_index_or nodes (place + 1) (slice_index nodes 0)))
  pub least : All (λ n. slice_index nodes 0 ≤ n) nodes

-- some list is a dependency order
abbrev pub HasOrder : List (List Edge) → Type 0
HasOrder graph = (list : List ℕ) × IsDependencyOrder graph list
