-- Text in form: UTF-8 without NUL and line feed (docs/FORMATS.md).
use Rattle.std.specs.Prelude.{ℕ, Bool, not, ◌&&◌, ◌==◌, nat_lt, List, IsTrue}
use Rattle.std.specs.List.{list_all}
use Rattle.std.specs.Str.{IsUtf8, is_utf8}

-- a byte that a text may have: neither NUL nor a line feed
abbrev pub is_text_byte : ℕ → Bool
is_text_byte b = not (b == 0) && not (b == 10)

abbrev pub has_text_bytes : List ℕ → Bool
has_text_bytes bytes = list_all is_text_byte bytes

-- UTF-8 without NUL and line feed
abbrev pub IsText : List ℕ → Type 0
IsText bytes = IsUtf8 bytes × IsTrue (has_text_bytes bytes)

-- the same as a test
abbrev pub is_text : List ℕ → Bool
is_text bytes = is_utf8 bytes && has_text_bytes bytes

-- the same of bytes that are all ASCII
abbrev pub is_plain_text : List ℕ → Bool
is_plain_text bytes = list_all (λ b. nat_lt b 128 && is_text_byte b) bytes
