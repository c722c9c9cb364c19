-- Patterns of names (docs/FORMATS.md, "Patterns").
use Rattle.std.specs.Prelude.{◌≡◌, ℕ, ◌<◌, ◌-◌, nat_le, drop, Bool, true, false, ◌==◌, ◌&&◌, ◌||◌, List, [], ◌∷◌, length, bytes_eq, IsTrue, if◌then◌else◌}
use Rattle.std.specs.List.{concat}

-- what one byte of a pattern stands for: any bytes for `*`, one byte for `?`, each other byte for itself
abbrev pub stands_for : ℕ → List ℕ → Bool
stands_for p piece = if p == 42 then true else (if p == 63 then length piece == 1 else bytes_eq piece (p ∷ []))

-- as many pieces as the pattern has bytes, each such that its byte stands for it
abbrev pub is_along : List ℕ → List (List ℕ) → Bool
is_along [] [] = true
is_along [] (piece ∷ pieces) = false
is_along (p ∷ pattern) [] = false
is_along (p ∷ pattern) (piece ∷ pieces) = stands_for p piece && is_along pattern pieces

-- there is a way to cut the name along the pattern
pub record Matches (pattern name : List ℕ) : Type 0 where
  pub pieces : List (List ℕ)
  pub along : IsTrue (is_along pattern pieces)
  pub whole : concat pieces ≡ name

-- a pattern without `*` stands for the first bytes of a name
abbrev pub begins : List ℕ → List ℕ → Bool
begins [] name = true
begins (p ∷ piece) [] = false
begins (p ∷ piece) (b ∷ name) = ((p == 63) || (p == b)) && begins piece name

-- the same of the last bytes
abbrev pub ends : List ℕ → List ℕ → Bool
ends piece name = nat_le (length piece) (length name) && begins piece (drop (length name - length piece) name)

-- at no place of a name before a given one does it stand for the bytes there
abbrev pub FitsNowhereBefore : List ℕ → List ℕ → ℕ → Type 0
FitsNowhereBefore piece name place = (at : ℕ) → at < place → begins piece (drop at name) ≡ false

-- a rest of a name is what stands behind the first place where it fits
pub record IsBehindFirst (piece name rest : List ℕ) : Type 0 where
  pub place : ℕ
  pub first : FitsNowhereBefore piece name place
  pub here : begins piece (drop place name) ≡ true
  pub behind : rest ≡ drop (length piece) (drop place name)
