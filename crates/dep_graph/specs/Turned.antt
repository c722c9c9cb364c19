-- The graph of dependents: each edge turned round.
use Rattle.std.specs.Prelude.{◌≡◌, ℕ, Bool, ◌==◌, ◌&&◌, ◌<◌, List, ◌++◌, length, map, filter}
use Rattle.std.specs.List.{flat_map, range_with_len}
use Rattle.bulk_model.specs.declared.plan.Edge.{Edge}
use Rattle.bulk_model.specs.Facts.{kind_number}
use Rattle.dep_graph.specs.Graphs.{times, edges_at, depends_at, nodes_of}

abbrev pub is_edge_to : ℕ → ℕ → Edge → Bool
is_edge_to kind d edge = (kind_number edge.kind == kind) && (edge.to == d)

-- the edges of a node n of one kind, by its number, that go to d, turned round
abbrev pub turned_of_kind : ℕ → ℕ → ℕ → List Edge → List Edge
turned_of_kind n kind d edges = map (λ edge. record { kind = edge.kind; to = n }) (filter (is_edge_to kind d) edges)

-- kind by kind, in the order of the dependency variables, of which there are seven
abbrev pub turned_from : ℕ → ℕ → List Edge → List Edge
turned_from n d edges = flat_map (λ kind. turned_of_kind n kind d edges) (range_with_len 0 7)

-- the dependents of d, by node and then by kind
abbrev pub dependents_at : List (List Edge) → ℕ → List Edge
dependents_at graph d = flat_map (λ n. turned_from n d (edges_at graph n)) (nodes_of graph)

abbrev pub dependents : List (List Edge) → List (List Edge)
dependents graph = map (dependents_at graph) (nodes_of graph)

-- a node stands in another's list of the turned graph as often as the other stands in its own
abbrev pub IsTurned : List (List Edge) → List (List Edge) → Type 0
IsTurned graph turned =
    (n d : ℕ) → n < length graph → d < length graph → times (depends_at turned d) n ≡ times (depends_at graph n) d

-- each list grew by what is said for its place
pub record Grew (before after : List (List Edge)) (more : ℕ → List Edge) : Type 0 where
  pub size : length after ≡ length before
  pub lists : (d : ℕ) → d < length before → edges_at after d ≡ edges_at before d ++ more d
