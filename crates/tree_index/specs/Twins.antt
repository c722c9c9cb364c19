-- Where the first two nodes stand that have packages of one name, and what is known on the way back to them.
use Rattle.std.specs.Prelude.{◌≡◌, ℕ, ◌<◌, List, length, drop, find, slice_get, bytes_eq, IfSome}
use Rattle.std.specs.declared.option.Option.{Option}
use Rattle.std.specs.declared.option.Option.TheVariants.{None, Some}
use Rattle.std.specs.Option.{option_and_then}
use Rattle.std.specs.Ordering.{nat_cmp}
use Rattle.std.specs.Cmp.Lexicographic.{slice_cmp}
use Rattle.std.specs.FinMap as finite
use Rattle.tree_index.specs.declared.node.NodeInfo.{NodeInfo}
use Rattle.tree_index.specs.declared.twins.Twins.{Twins}
use Rattle.tree_index.specs.Tree.{first_twins}

-- a number, if there is one, is that of the first node from a place on whose package has a name
pub record IsFirstNamed (nodes : List NodeInfo) (from : ℕ) (name : List ℕ) (number : Option ℕ) : Type 0 where
  pub node : find (λ node. bytes_eq name node.desc.name) (drop from nodes) ≡ option_and_then (slice_get nodes) number
  pub within : IfSome number (λ at. at < length nodes)

-- a map from names of packages to the numbers of the first nodes from a place on that have them
abbrev pub IsSeen : List NodeInfo → ℕ → finite.FinMap (slice_cmp nat_cmp) ℕ → Type 0
IsSeen nodes from seen = (name : List ℕ) → IsFirstNamed nodes from name (finite.get seen name)

-- the numbers, if there are any, are those of the first twins from a place on
abbrev pub AreNumbers : List NodeInfo → Option Twins → Option (NodeInfo × NodeInfo) → Type 0
AreNumbers nodes None None = Unit {0}
AreNumbers nodes (Some twins) (Some pair) = (slice_get nodes twins.least ≡ Some pair.0) × (slice_get nodes twins.other ≡ Some pair.1)
AreNumbers nodes None (Some pair) = ⊥
AreNumbers nodes (Some twins) None = ⊥

abbrev pub IsFirstTwins : List NodeInfo → ℕ → Option Twins → Type 0
IsFirstTwins nodes from twins = AreNumbers nodes twins (first_twins (drop from nodes))
