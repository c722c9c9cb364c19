-- Texts in byte order, each once.
use Rattle.std.specs.Prelude.{ℕ, List}
use Rattle.std.specs.List.{fold}
use Rattle.std.specs.Ordering.{nat_cmp}
use Rattle.std.specs.Cmp.Lexicographic.{slice_cmp}
use Rattle.std.specs.FinMap as map

-- a finite set of texts
abbrev pub TextSet : Type 0
TextSet = map.FinMap (slice_cmp nat_cmp) (Unit {0})

-- the texts as a set
abbrev pub set_of : List (List ℕ) → TextSet
set_of texts = fold (λ set text. map.insert set text tt) map.empty texts

-- the texts in byte order, each once
unfoldable pub in_order : List (List ℕ) → List (List ℕ)
in_order texts = map.keys (set_of texts)
