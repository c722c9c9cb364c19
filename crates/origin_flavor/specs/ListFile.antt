-- The words of a list file (poudriere-bulk(8), "-f"; docs/FORMATS.md, "Wanted ports").
use Rattle.std.specs.Prelude.{ℕ, ◌+◌, ◌==◌, Bool, not, List, ◌++◌, map, filter, position}
use Rattle.std.specs.declared.option.Option.{Option}
use Rattle.std.specs.declared.option.Option.TheVariants.{None, Some}
use Rattle.std.specs.declared.result.Result.{Result}
use Rattle.std.specs.declared.result.Result.TheVariants.{Ok, Err}
use Rattle.std.specs.List.{before_first}
use Rattle.std.specs.Str.Lines.{lines}
use Rattle.bulk_base.specs.Text.{is_text}
use Rattle.bulk_base.specs.Words.{is_filled}
use Rattle.bulk_base.specs.Trim.{trim}
use Rattle.port_vars.specs.Assignment.{mapped}
use Rattle.origin_flavor.specs.declared.fault.WantedError.{WantedError}
use Rattle.origin_flavor.specs.declared.fault.WantedError.TheVariants.{BadList}

-- a comment begins with `#`, wherever it stands
abbrev pub is_hash : ℕ → Bool
is_hash b = b == 35

-- the word of a line: what stands before its comment, without the blanks at both ends
abbrev pub word_of : List ℕ → List ℕ
word_of line = trim (before_first is_hash line)

abbrev pub is_bad : List ℕ → Bool
is_bad line = not (is_text line)

-- the words of lines, in their order, without the empty ones
abbrev pub words_on : List (List ℕ) → List (List ℕ)
words_on lines = filter is_filled (map word_of lines)

-- the words of lines, or the first line that is no text, by its number from 1
abbrev pub words_in : List (List ℕ) → Result (List (List ℕ)) WantedError
words_in lines = elim (position is_bad lines) [
  | Some at ↦ Err (BadList (at + 1))
  | None ↦ Ok (words_on lines)
]

-- the words wanted: those of the list file, if there is one, then the command's
abbrev pub wanted_words : Option (List ℕ) → List (List ℕ) → Result (List (List ℕ)) WantedError
wanted_words None words = Ok words
wanted_words (Some bytes) words = mapped (λ listed. listed ++ words) (words_in (lines bytes))
