-- The joined lines of a variable file (docs/FORMATS.md, "Variable files").
use Rattle.std.specs.Prelude.{ℕ, ◌+◌, ◌-◌, Bool, true, false, ◌==◌, List, [], ◌∷◌, ◌++◌, length, slice_index, take, if◌then◌else◌}
use Rattle.std.specs.declared.option.Option.{Option}
use Rattle.std.specs.declared.option.Option.TheVariants.{None, Some}
use Rattle.std.specs.Str.Lines.{lines}
use Rattle.port_vars.specs.declared.joined.Line.{Line}
use Rattle.bulk_base.specs.Trim.{trim_start}

-- the last byte is `\`
abbrev pub ends_in_backslash : List ℕ → Bool
ends_in_backslash text = slice_index text (length text - 1) == 92

-- a text but its last byte
abbrev pub without_last : List ℕ → List ℕ
without_last text = take (length text - 1) text

-- a line without the `\` that joins it with the next
abbrev pub body : List ℕ → List ℕ
body line = if ends_in_backslash line then without_last line else line

-- what the lines behind a line that ends in `\` add to it
abbrev pub continued : List (List ℕ) → List ℕ
continued [] = []
continued (line ∷ rest) = 32 ∷ (trim_start (body line) ++ (if ends_in_backslash line then continued rest else []))

-- the text of the joined line that begins with a line
abbrev pub joined_text : List ℕ → List (List ℕ) → List ℕ
joined_text line rest = body line ++ (if ends_in_backslash line then continued rest else [])

-- the joined lines of lines from a number on; `inside` says that the line before these ends in `\`: a joined line begins
-- at each line that follows no such line, and has its number
abbrev pub joined_from : ℕ → Bool → List (List ℕ) → List Line
joined_from number inside [] = []
joined_from number inside (line ∷ rest) =
    let later = joined_from (number + 1) (ends_in_backslash line) rest in
    if inside then later else record { number = number; text = joined_text line rest } ∷ later

-- the joined lines of a file
abbrev pub joined : List ℕ → List Line
joined bytes = joined_from 1 false (lines bytes)

-- a line that begins a joined line, or goes on with one
abbrev pub next_line : Option Line → ℕ → List ℕ → Line
next_line None number line = record { number = number; text = body line }
next_line (Some before) number line = record { number = before.number; text = before.text ++ 32 ∷ trim_start (body line) }

-- the joined lines, where some are found, one may be open, and lines from a number on are left
abbrev pub whole : List Line → Option Line → ℕ → List (List ℕ) → List Line
whole found None number rest = found ++ joined_from number false rest
whole found (Some line) number rest = found ++ record { number = line.number; text = line.text ++ continued rest } ∷ joined_from number true rest
