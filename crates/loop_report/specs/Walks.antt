-- Walks over numbers: from each number there is one way on.
use Rattle.std.specs.Prelude.{ℕ, zero, suc, Bool, ◌==◌, List, [], ◌∷◌, filter, Option, None, Some, if◌then◌else◌}
use Rattle.bulk_base.specs.Least.{least}
use Rattle.dep_graph.specs.Graphs.{has}

-- the numbers of a walk, so many of them, from a given one on
abbrev pub walk : (ℕ → ℕ) → ℕ → ℕ → List ℕ
walk next zero n = []
walk next (suc more) n = n ∷ walk next more (next n)

-- the numbers of a list up to the first that is the given one
abbrev pub before : ℕ → List ℕ → List ℕ
before n [] = []
before n (number ∷ more) = if number == n then [] else number ∷ before n more

-- the walk that has left a number comes to it again, among so many numbers
abbrev pub comes_back : (ℕ → ℕ) → ℕ → ℕ → Bool
comes_back next count n = has (walk next count (next n)) n

-- the part of a walk that it repeats
abbrev pub repeated : (ℕ → ℕ) → ℕ → ℕ → List ℕ
repeated next count first = filter (comes_back next count) (walk next count first)

-- the walk from a number on, until it comes to that number again
abbrev pub round : (ℕ → ℕ) → ℕ → ℕ → List ℕ
round next count n = n ∷ before n (walk next count (next n))

abbrev pub round_from : (ℕ → ℕ) → ℕ → Option ℕ → List ℕ
round_from next count None = []
round_from next count (Some n) = round next count n

-- the repeated part of the walk from a number, turned to begin at its least; nothing where there is no number to walk from
abbrev pub loop_from : (ℕ → ℕ) → ℕ → Option ℕ → List ℕ
loop_from next count None = []
loop_from next count (Some first) = round_from next count (least (repeated next count first))
