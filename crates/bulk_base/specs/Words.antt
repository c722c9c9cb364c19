-- Words and lines (docs/FORMATS.md).
use Rattle.std.specs.Prelude.{ℕ, Bool, not, ◌||◌, ◌==◌, List, length, filter}
use Rattle.std.specs.List.{slice_split}

-- a blank is a space or a tab
abbrev pub is_blank : ℕ → Bool
is_blank b = (b == 32) || (b == 9)

abbrev pub is_filled : List ℕ → Bool
is_filled piece = not (length piece == 0)

-- the pieces between blanks that are not empty
abbrev pub words_of : List ℕ → List (List ℕ)
words_of text = filter is_filled (slice_split is_blank text)
