-- The least of some numbers.
use Rattle.std.specs.Prelude.{ℕ, Bool, List, min, filter, Option}
use Rattle.std.specs.List.{reduce}

abbrev pub least : List ℕ → Option ℕ
least numbers = reduce min numbers

-- the least that passes a test
abbrev pub least_passing : (ℕ → Bool) → List ℕ → Option ℕ
least_passing passes numbers = least (filter passes numbers)
