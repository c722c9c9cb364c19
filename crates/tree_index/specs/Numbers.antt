-- The numbers of nodes, by the names that mean them, as a map.
use Rattle.std.specs.Prelude.{◌≡◌, ℕ, Bool, List, if◌then◌else◌}
use Rattle.std.specs.declared.option.Option.TheVariants.{None, Some}
use Rattle.std.specs.Option.{option_or}
use Rattle.std.specs.Ordering.{nat_cmp}
use Rattle.std.specs.Cmp.Lexicographic.{slice_cmp}
use Rattle.std.specs.FinMap.{FinMap, get}
use Rattle.port_name.specs.Sets.{is_among}
use Rattle.tree_index.specs.declared.node.NodeInfo.{NodeInfo}
use Rattle.tree_index.specs.Targets.{number_in, names_of}

-- a finite map from names to numbers
abbrev pub Numbers : Type 0
Numbers = FinMap (slice_cmp nat_cmp) ℕ

-- a map gives each name the number of the node that it means
abbrev pub IsNumbering : List NodeInfo → Numbers → Type 0
IsNumbering nodes numbers = (name : List ℕ) → get numbers name ≡ number_in nodes name

-- each name that passes a test and has no number gets one; the others stay as they are
abbrev pub Gains : Numbers → (List ℕ → Bool) → ℕ → Numbers → Type 0
Gains old test number new = (name : List ℕ) → get new name ≡ option_or (get old name) (if test name then Some number else None)

-- numbers and names are those of nodes
pub record AreOf (nodes : List NodeInfo) (numbers : Numbers) (names : List (List ℕ)) : Type 0 where
  pub numbering : IsNumbering nodes numbers
  pub known : (name : List ℕ) → is_among names name ≡ is_among (names_of nodes) name
