-- Marks at nodes.
use Rattle.std.specs.Prelude.{◌≡◌, ℕ, Bool, true, false, List, slice_index_or}

-- whether a node is marked; past the end none is
abbrev pub flag : List Bool → ℕ → Bool
flag flags n = slice_index_or flags n false

-- each node that the first marks is marked by the second
abbrev pub Within : List Bool → List Bool → Type 0
Within xs ys = (n : ℕ) → flag xs n ≡ true → flag ys n ≡ true
