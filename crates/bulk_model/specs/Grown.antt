-- What a first few grow to, where each round adds what those that are there lead to.
use Rattle.std.specs.Prelude.{ℕ, zero, suc, Bool, ◌||◌, ◌&&◌, List}
use Rattle.std.specs.List.{list_any}

-- whether an element is there after so many rounds over the elements
abbrev pub grown : {X : Type 0} → (X → Bool) → (X → X → Bool) → List X → ℕ → X → Bool
grown first leads elements zero x = first x
grown first leads elements (suc rounds) x =
    grown first leads elements rounds x
    || list_any (λ m. grown first leads elements rounds m && leads m x) elements
