-- Nodes that wait for their dependencies.
use Rattle.std.specs.Prelude.{◌≡◌, ℕ, not, ◌==◌, ◌+◌, ◌<◌, ◌≤◌, List, length, take, slice_index}
use Rattle.std.specs.List.{count_by}
use Rattle.bulk_model.specs.declared.plan.Edge.{Edge}
use Rattle.dep_graph.specs.Graphs.{has, times, depends_at}
use Rattle.dep_graph.specs.Order.{IsInOrder}

-- how many of the numbers are not in the list
abbrev pub count_outside : List ℕ → List ℕ → ℕ
count_outside list numbers = count_by (λ number. not (has list number)) numbers

-- each node has the count of its edges to nodes that are not among the first of the order, besides those in `rest`;
-- the order has the nodes whose count is 0
pub record IsWaiting (graph : List (List Edge)) (first : ℕ) (rest counts_now order : List ℕ) : Type 0 where
  pub size : length counts_now ≡ length graph
  pub within : first ≤ length order
  pub counts : (n : ℕ) → n < length graph → slice_index counts_now n ≡ count_outside (take first order) (depends_at graph n) + times rest n
  pub ordered : (n : ℕ) → n < length graph → has order n ≡ (slice_index counts_now n == 0)
  pub in_order : IsInOrder graph order
