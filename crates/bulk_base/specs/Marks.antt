-- Bytes before and behind the first of one kind.
use Rattle.std.specs.Prelude.{ℕ, Bool, ◌==◌, List}
use Rattle.std.specs.List.{before_first, after_first}

abbrev pub is_mark : ℕ → ℕ → Bool
is_mark mark b = b == mark

-- what stands before the first such byte, and what stands behind it
abbrev pub front : ℕ → List ℕ → List ℕ
front mark text = before_first (is_mark mark) text

abbrev pub back : ℕ → List ℕ → List ℕ
back mark text = after_first (is_mark mark) text
