-- A number of each view added up, and the view at a place, as std's rules over tables name it; for views of any type.
use Rattle.std.specs.Prelude.{◌≡◌, ℕ, ◌+◌, List, [], ◌∷◌}
use mathlib.Core.Option.{some}
use lib.ListN.{get_elem?}

module _ {V : Type 0} where
  -- a number of each view, added up
  abbrev pub total : (V → ℕ) → List V → ℕ
  total f [] = 0
  total f (v ∷ views) = f v + total f views

  -- the view at a place is this one
  abbrev pub At : List V → ℕ → V → Type 0
  At views i v = get_elem? views i ≡ some v
