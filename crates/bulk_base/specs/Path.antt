-- Paths in form: parts joined by `/` (docs/FORMATS.md).
use Rattle.std.specs.Prelude.{ℕ, Bool, not, ◌&&◌, ◌||◌, ◌==◌, nat_eq, nat_lt, nat_le, List, [], ◌∷◌, ◌++◌, length, IsTrue, bytes_eq}
use Rattle.std.specs.List.{list_all, slice_split, starts_with}
use Rattle.bulk_base.specs.declared.text.TextError.{TextError}
use Rattle.bulk_base.specs.declared.text.TextError.TheVariants.{NotText, NoMemory as TextNoMemory}
use Rattle.bulk_base.specs.declared.path.PathError.{PathError}
use Rattle.bulk_base.specs.declared.path.PathError.TheVariants.{BadPath, NoMemory as PathNoMemory}

abbrev pub is_slash : ℕ → Bool
is_slash b = b == 47

-- the pieces between slashes
abbrev pub parts : List ℕ → List (List ℕ)
parts path = slice_split is_slash path

-- a part has 1 to 200 bytes and is neither `.` nor `..`
abbrev pub is_part : List ℕ → Bool
is_part part = nat_lt 0 (length part) && nat_le (length part) 200 && not (bytes_eq part (46 ∷ [])) && not (bytes_eq part (46 ∷ 46 ∷ []))

-- at most 1,024 bytes, each piece between slashes a part
abbrev pub is_path : List ℕ → Bool
is_path path = nat_le (length path) 1024 && list_all is_part (parts path)

abbrev pub IsPath : List ℕ → Type 0
IsPath path = IsTrue (is_path path)

-- one path below another, a slash between
abbrev pub joined : List ℕ → List ℕ → List ℕ
joined folder rest = folder ++ (47 ∷ rest)

-- the path begins with the folder and a slash
abbrev pub is_below : List ℕ → List ℕ → Bool
is_below folder path = starts_with nat_eq path (joined folder [])

-- the paths are equal or one is below the other
abbrev pub collides : List ℕ → List ℕ → Bool
collides a b = bytes_eq a b || is_below b a || is_below a b

-- bytes that are no text are no path
abbrev pub path_error_of : TextError → PathError
path_error_of NotText = BadPath
path_error_of TextNoMemory = PathNoMemory
