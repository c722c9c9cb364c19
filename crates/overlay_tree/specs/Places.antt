-- Where a path of a ports tree stands (docs/FORMATS.md).
use Rattle.std.specs.Prelude.{ℕ, zero, suc, Bool, not, ◌&&◌, ◌||◌, ◌==◌, nat_lt, List, [], ◌∷◌, length, count_by, codes, bytes_eq, if◌then◌else◌}
use Rattle.bulk_base.specs.Marks.{front, back}

-- the first part of a path, and what stands behind it
abbrev pub first : List ℕ → List ℕ
first path = front 47 path

abbrev pub behind : List ℕ → List ℕ
behind path = back 47 path

abbrev pub is_base_part : List ℕ → Bool
is_base_part part =
    bytes_eq part (codes "etc") || bytes_eq part (codes "base") || bytes_eq part (codes "distfiles")

-- the path is `etc`, `base` or `distfiles`, or stands below one of them
abbrev pub is_base : List ℕ → Bool
is_base path = is_base_part (first path)

-- the path stands below `etc`, `base` or `distfiles`
abbrev pub is_in_base : List ℕ → Bool
is_in_base path = is_base path && nat_lt (length (first path)) (length path)

-- the path is `ports` or stands below it
abbrev pub is_in_ports : List ℕ → Bool
is_in_ports path = bytes_eq (first path) (codes "ports")

-- what stands before the slash behind so many slashes, or all
abbrev pub before_slash : ℕ → List ℕ → List ℕ
before_slash left [] = []
before_slash zero (x ∷ path) = if x == 47 then [] else x ∷ before_slash zero path
before_slash (suc left) (x ∷ path) = if x == 47 then x ∷ before_slash left path else x ∷ before_slash (suc left) path

-- the first three parts of a path: a port's folder, where the path stands in one
abbrev pub port_of : List ℕ → List ℕ
port_of path = before_slash 2 path

-- names that are no category's
abbrev pub is_reserved : List ℕ → Bool
is_reserved part = bytes_eq part (codes "subdir.vars") || bytes_eq part (codes "MOVED")

-- four parts or more
abbrev pub is_slash : ℕ → Bool
is_slash b = b == 47

abbrev pub is_deep : List ℕ → Bool
is_deep path = nat_lt 2 (count_by is_slash path)

-- the second part of a path and the third; empty, where there is none
abbrev pub second : List ℕ → List ℕ
second path = first (behind path)

abbrev pub third : List ℕ → List ℕ
third path = first (behind (behind path))

abbrev pub is_list_name : List ℕ → Bool
is_list_name part = bytes_eq part (codes "subdir.vars")

-- `ports/CATEGORY/subdir.vars`
abbrev pub is_category_list : List ℕ → Bool
is_category_list path =
    is_in_ports path && not (is_reserved (second path)) && is_list_name (third path) && not (is_deep path)

-- a list of categories or of ports, or MOVED
abbrev pub is_joined : List ℕ → Bool
is_joined path =
    bytes_eq path (codes "ports/subdir.vars") || bytes_eq path (codes "ports/MOVED") || is_category_list path

-- `ports/CATEGORY/PORT/..`
abbrev pub is_port_file : List ℕ → Bool
is_port_file path =
    is_in_ports path && not (is_reserved (second path)) && not (is_list_name (third path)) && is_deep path
