-- Nodes as they are found.
use Rattle.std.specs.Prelude.{◌≡◌, ℕ, Bool, true, false, ◌<◌, List, ◌∷◌, [], ◌++◌, length, filter, slice_index_or, slice_set, nat_eq, if◌then◌else◌}
use Rattle.std.specs.List.{All, IsDistinct, fold}
use Rattle.bulk_model.specs.declared.depend.DepKind.{DepKind}
use Rattle.bulk_model.specs.declared.plan.Edge.{Edge}
use Rattle.bulk_model.specs.Installs.{is_needed_later}
use Rattle.dep_graph.specs.declared.spread.Follow.{Follow}
use Rattle.dep_graph.specs.declared.spread.Follow.TheVariants.{All as Every, Later}
use Rattle.dep_graph.specs.Graphs.{has, targets, edges_at}
use Rattle.dep_graph.specs.Reached.{is_reached}

-- the nodes that were found, each once, of so many
pub record FoundView : Type 0 where
  pub count : ℕ
  pub nodes : List ℕ

-- each found node is marked, and no other
pub record IsFound (marks : List Bool) (nodes : List ℕ) : Type 0 where
  pub once : IsDistinct nat_eq nodes
  pub below : All (λ n. n < length marks) nodes
  pub marked : (n : ℕ) → n < length marks → slice_index_or marks n false ≡ has nodes n

abbrev pub with_node : List ℕ → ℕ → List ℕ
with_node nodes n = if has nodes n then nodes else nodes ++ n ∷ []

abbrev pub with_nodes : List ℕ → List ℕ → List ℕ
with_nodes nodes more = fold with_node nodes more

abbrev pub found_with : FoundView → List ℕ → FoundView
found_with found more = record { count = found.count; nodes = with_nodes found.nodes more }

-- these marks, without those at some nodes
abbrev pub unmarked : List Bool → List ℕ → List Bool
unmarked marks nodes = fold (λ marks n. slice_set marks n false) marks nodes

-- whether edges of a kind are followed
abbrev pub follows : Follow → DepKind → Bool
follows Every kind = true
follows Later kind = is_needed_later kind

-- the nodes that edges lead to, of the edges that are followed
abbrev pub followed : Follow → List Edge → List ℕ
followed Every edges = targets edges
followed Later edges = targets (filter (λ edge. is_needed_later edge.kind) edges)

abbrev pub leads_to : Follow → List (List Edge) → ℕ → List ℕ
leads_to follow graph n = followed follow (edges_at graph n)

-- all that the first found nodes lead to was found
pub record Spreads (leads : ℕ → List ℕ) (before after : FoundView) : Type 0 where
  pub count : after.count ≡ before.count
  pub closed : (n : ℕ) → has after.nodes n ≡ true → All (λ d. has after.nodes d ≡ true) (leads n)
  pub rounds : (from : List ℕ) → ((n : ℕ) → has before.nodes n ≡ has from n) → (n : ℕ) → n < before.count
      → has after.nodes n ≡ is_reached leads before.count from before.count n
