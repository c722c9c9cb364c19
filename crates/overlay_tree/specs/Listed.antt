-- What the trees list, and what of it the whole tree lists.
use Rattle.std.specs.Prelude.{◌≡◌, ℕ, ◌+◌, Bool, not, ◌&&◌, ◌||◌, List, [], ◌∷◌, ◌++◌, map, filter}
use Rattle.std.specs.List.{list_any}
use Rattle.bulk_base.specs.Path.{is_below}
use Rattle.overlay_tree.specs.Places.{port_of, is_joined, is_port_file}

-- what all of some lists have
abbrev pub all_of : List (List (List ℕ)) → List (List ℕ)
all_of [] = []
all_of (list ∷ lists) = list ++ all_of lists

-- whether a path that is listed stays, where these are listed by later trees
abbrev pub stays : List (List ℕ) → List ℕ → Bool
stays later path = is_joined path || (is_port_file path && not (list_any (is_below (port_of path)) later))

-- what stays of the lists of some trees, the base's first
abbrev pub kept_of : List (List (List ℕ)) → List (List ℕ)
kept_of [] = []
kept_of (list ∷ later) = filter (stays (all_of later)) list ++ kept_of later

-- numbers added up
abbrev pub total : {T : Type 0} → (T → ℕ) → List T → ℕ
total count [] = 0
total count (x ∷ xs) = count x + total count xs

-- the lists have the same members
abbrev pub Alike : List (List ℕ) → List (List ℕ) → Type 0
Alike xs ys = (test : List ℕ → Bool) → list_any test xs ≡ list_any test ys
