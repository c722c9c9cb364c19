-- Numbers as decimal digits (docs/FORMATS.md).
use Rattle.std.specs.Prelude.{ℕ, Bool, not, ◌&&◌, ◌||◌, ◌==◌, nat_le, nat_lt, List, length, slice_index, Option, Some, None, if◌then◌else◌}
use Rattle.std.specs.List.{list_all}
use Rattle.std.specs.Char.{is_ascii_digit}
use Rattle.std.specs.Str.Parse.{digits_value}

-- `0`, or 1 to 18 digits of which the first is not 0
abbrev pub is_number : List ℕ → Bool
is_number text = list_all is_ascii_digit text && nat_lt 0 (length text) && nat_le (length text) 18 && ((length text == 1) || not (slice_index text 0 == 48))

-- the number that a text in this form spells
abbrev pub number_of : List ℕ → Option ℕ
number_of text = if is_number text then Some (digits_value 10 text) else None
