-- The nodes that some nodes lead to.
use Rattle.std.specs.Prelude.{ℕ, zero, suc, Bool, ◌||◌, ◌&&◌, ◌<◌, List, length, filter, IsTrue}
use Rattle.std.specs.List.{list_any, range_with_len, All}
use Rattle.std.specs.List.Sorted.{IsStrictlyIncreasing}
use Rattle.bulk_model.specs.declared.plan.Edge.{Edge}
use Rattle.dep_graph.specs.Graphs.{has, depends_at, nodes_of}

-- a node is reached after a number of rounds, where each round adds all that members lead to
abbrev pub is_reached : (ℕ → List ℕ) → ℕ → List ℕ → ℕ → ℕ → Bool
is_reached leads_to count from zero d = has from d
is_reached leads_to count from (suc rounds) d =
    is_reached leads_to count from rounds d
    || list_any (λ member. is_reached leads_to count from rounds member && has (leads_to member) d) (range_with_len 0 count)

-- in node order; as many rounds as there are nodes add all
abbrev pub reach : List (List Edge) → List ℕ → List ℕ
reach graph from = filter (is_reached (depends_at graph) (length graph) from (length graph)) (nodes_of graph)

-- a set that has with each node all that it leads to
abbrev pub IsClosed : (ℕ → List ℕ) → ℕ → (ℕ → Bool) → Type 0
IsClosed leads_to count keeps = (n : ℕ) → n < count → IsTrue (keeps n) → All (λ d. IsTrue (keeps d)) (leads_to n)

-- the least closed set with the given nodes, ascending
pub record IsReach (graph : List (List Edge)) (from reached : List ℕ) : Type 0 where
  pub ascending : IsStrictlyIncreasing reached
  pub begun : All (λ n. IsTrue (has reached n)) from
  pub closed : IsClosed (depends_at graph) (length graph) (has reached)
  pub least : (keeps : ℕ → Bool) → IsClosed (depends_at graph) (length graph) keeps → All (λ n. IsTrue (keeps n)) from → All (λ n. IsTrue (keeps n)) reached
