-- What a tree, a store or a room's folder holds: a finite map from paths or names to bytes.
use Rattle.std.specs.Prelude.{ℕ, Bool, not, ◌||◌, List, filter, take, Option, IsTrue}
use Rattle.std.specs.Option.{option_map}
use Rattle.std.specs.Ordering.{nat_cmp}
use Rattle.std.specs.Cmp.Lexicographic.{slice_cmp}
use Rattle.std.specs.List.{list_all, list_any}
use Rattle.std.specs.List.Sorted.{IsStrictlySortedBy}
use Rattle.std.specs.FinMap.{FinMap, get, keys}
use Rattle.bulk_base.specs.Path.{is_below, collides}

abbrev pub Contents : Type 0
Contents = FinMap (slice_cmp nat_cmp) (List ℕ)

-- the paths below a folder, in byte order
abbrev pub files_below : List ℕ → Contents → List (List ℕ)
files_below folder content = filter (is_below folder) (keys content)

-- the first bytes of a file, if it is there
abbrev pub first_bytes : ℕ → List ℕ → Contents → Option (List ℕ)
first_bytes most file content = option_map (take most) (get content file)

-- no path is a folder of another
abbrev pub has_no_folder : List (List ℕ) → Bool
has_no_folder paths = list_all (λ folder. list_all (λ path. not (is_below folder path)) paths) paths

-- whether a file can stand at a path: none stands below it, and none of its folders is a file
abbrev pub can_hold : List ℕ → Contents → Bool
can_hold path content = not (list_any (λ other. is_below path other || is_below other path) (keys content))

-- the path neither is that of a file nor stands above or below one
abbrev pub IsFree : List ℕ → Contents → Type 0
IsFree path content = IsTrue (list_all (λ other. not (collides path other)) (keys content))

-- texts in byte order, each once
abbrev pub IsAscending : List (List ℕ) → Type 0
IsAscending texts = IsStrictlySortedBy (slice_cmp nat_cmp) texts

-- paths below a folder, in byte order, each once, none a folder of another
pub record IsListing (folder : List ℕ) (paths : List (List ℕ)) : Type 0 where
  pub order : IsAscending paths
  pub below : IsTrue (list_all (is_below folder) paths)
  pub apart : IsTrue (has_no_folder paths)
