-- Marks at nodes put together and compared, and how often a node stands in a list.
use Rattle.std.specs.Prelude.{ℕ, suc, ◌+◌, ◌==◌, Bool, true, false, not, ◌&&◌, ◌||◌, List, [], ◌∷◌}

-- what either marks
abbrev pub either_of : List Bool → List Bool → List Bool
either_of [] ys = ys
either_of (x ∷ xs) [] = x ∷ xs
either_of (x ∷ xs) (y ∷ ys) = (x || y) ∷ either_of xs ys

abbrev pub one : Bool → ℕ
one true = 1
one false = 0

-- how often a node stands in a list
abbrev pub times : ℕ → List ℕ → ℕ
times n [] = 0
times n (x ∷ xs) = one (x == n) + times n xs

abbrev pub added : Bool → ℕ → List ℕ → List ℕ
added true n ns = n ∷ ns
added false n ns = ns

-- the nodes that the second marks and the first does not, from a number on
abbrev pub newly : ℕ → List Bool → List Bool → List ℕ
newly i xs [] = []
newly i [] (y ∷ ys) = added y i (newly (suc i) [] ys)
newly i (x ∷ xs) (y ∷ ys) = added (y && not x) i (newly (suc i) xs ys)
