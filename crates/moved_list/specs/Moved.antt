-- What MOVED says (Porter's Handbook, "MOVED"; docs/FORMATS.md).
use Rattle.std.specs.Prelude.{◌≡◌, ℕ, ◌+◌, ◌<◌, Bool, not, List, length, map, filter, find, reverse, position, bytes_eq, slice_get, Option, Some, None, IfSome}
use Rattle.std.specs.declared.result.Result.{Result}
use Rattle.std.specs.declared.result.Result.TheVariants.{Ok, Err}
use Rattle.std.specs.Option.{option_and_then}
use Rattle.std.specs.Str.Lines.{lines}
use Rattle.moved_list.specs.declared.line.MovedLine.{MovedLine}
use Rattle.moved_list.specs.declared.fault.MovedError.{MovedError}
use Rattle.moved_list.specs.declared.fault.MovedError.TheVariants.{BadLine}
use Rattle.moved_list.specs.Lines.{is_ignored, is_moved_line, entry}

abbrev pub says_something : List ℕ → Bool
says_something line = not (is_ignored line)

abbrev pub is_bad : List ℕ → Bool
is_bad line = not (is_moved_line line)

-- what the lines say that say something, in their order
abbrev pub entries : List (List ℕ) → List MovedLine
entries lines = map entry (filter says_something lines)

-- what lines say, or the first that is outside the form, by its number from 1
abbrev pub moved_in : List (List ℕ) → Result (List MovedLine) MovedError
moved_in lines = elim (position is_bad lines) [
  | Some at ↦ Err (BadLine (at + 1))
  | None ↦ Ok (entries lines)
]

-- the same of a file
abbrev pub moved_of : List ℕ → Result (List MovedLine) MovedError
moved_of bytes = moved_in (lines bytes)

-- the last line that has an old name
abbrev pub last_line : List MovedLine → List ℕ → Option MovedLine
last_line moved name = find (λ line. bytes_eq line.from name) (reverse moved)

-- a place, if there is one, is that of the last line that has an old name
pub record IsPlaceOf (moved : List MovedLine) (name : List ℕ) (place : Option ℕ) : Type 0 where
  pub line : last_line moved name ≡ option_and_then (slice_get moved) place
  pub within : IfSome place (λ at. at < length moved)
