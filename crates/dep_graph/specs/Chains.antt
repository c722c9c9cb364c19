-- Chains of dependents.
use Rattle.std.specs.Prelude.{◌≡◌, ◌≤◌, ◌<◌, ℕ, max, Bool, true, ◌&&◌, List, [], ◌∷◌, length, slice_index, IsTrue, if◌then◌else◌}
use Rattle.bulk_model.specs.declared.plan.Edge.{Edge}
use Rattle.dep_graph.specs.Graphs.{has, depends_at}

-- the first of the list depends on the node, and each other on the one before it
abbrev pub is_chain_above : List (List Edge) → ℕ → List ℕ → Bool
is_chain_above graph n [] = true
is_chain_above graph n (dependent ∷ more) = has (depends_at graph dependent) n && is_chain_above graph dependent more

abbrev pub HasChain : List (List Edge) → ℕ → ℕ → Type 0
HasChain graph n edges = (above : List ℕ) × IsTrue (is_chain_above graph n above) × (length above ≡ edges)

-- so many edges has the longest chain of dependents above the node
pub record IsLongest (graph : List (List Edge)) (n edges : ℕ) : Type 0 where
  pub found : HasChain graph n edges
  pub most : (above : List ℕ) → IsTrue (is_chain_above graph n above) → length above ≤ edges

-- the numbers at these places were raised to a value, where they were less
pub record Raised (places : List ℕ) (value : ℕ) (before after : List ℕ) : Type 0 where
  pub size : length after ≡ length before
  pub numbers : (d : ℕ) → d < length before → slice_index after d ≡ (if has places d then max (slice_index before d) value else slice_index before d)
