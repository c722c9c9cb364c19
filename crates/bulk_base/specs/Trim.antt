-- Texts without the blanks at their ends (docs/FORMATS.md).
use Rattle.std.specs.Prelude.{ℕ, List, [], ◌∷◌, reverse, if◌then◌else◌}
use Rattle.bulk_base.specs.Words.{is_blank}

-- without the leading blanks
abbrev pub trim_start : List ℕ → List ℕ
trim_start [] = []
trim_start (b ∷ rest) = if is_blank b then trim_start rest else b ∷ rest

-- without the trailing blanks
abbrev pub trim_end : List ℕ → List ℕ
trim_end text = reverse (trim_start (reverse text))

-- without the blanks at both ends
unfoldable pub trim : List ℕ → List ℕ
trim text = trim_end (trim_start text)
