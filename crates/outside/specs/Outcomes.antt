-- What a call of a room or a sink leaves after an error.
use Rattle.std.specs.Prelude.{◌≡◌, ℕ, ◌⊎◌, List, [], ◌∷◌, ◌++◌, take, Result, Ok, Err}

-- a name was added, or nothing
abbrev pub GrewByAtMost : List ℕ → List (List ℕ) → List (List ℕ) → Type 0
GrewByAtMost name before now = (now ≡ before ++ name ∷ []) ⊎ (now ≡ before)

-- the whole piece was written, or after an error a prefix of it
abbrev pub Wrote : {X E : Type 0} → List ℕ → List ℕ → List ℕ → Result X E → Type 0
Wrote piece before now (Ok _) = now ≡ before ++ piece
Wrote piece before now (Err _) = (count : ℕ) × (now ≡ before ++ take count piece)
