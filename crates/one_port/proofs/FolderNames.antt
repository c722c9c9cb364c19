-- Bytes below 128 are a text where none is NUL or a line feed, as the folders' names.
use Rattle.std.proofs.Common.{◌≡◌, ℕ, zero, suc, List, [], ◌∷◌, true, codes, refl, arith}
use Rattle.std.specs.Prelude.{nat_lt}
use Rattle.std.specs.List.{list_all}
use Rattle.std.specs.Str.{IsAscii}
use Rattle.std.proofs.lemmas.Bool.{and_parts, ltb-true}
use Rattle.std.proofs.lemmas.Str.{IsUtf8-from_ascii, is_utf8-from_IsUtf8}
use Rattle.bulk_base.specs.Text.{is_text, has_text_bytes}

ascii_from : (bytes : List ℕ) → list_all (λ b. nat_lt b 128) bytes ≡ true → IsAscii bytes
ascii_from [] h i = omega arith
ascii_from (b ∷ bytes) h zero = ltb-true b 128 (and_parts (nat_lt b 128) (list_all (λ x. nat_lt x 128) bytes) h).0
ascii_from (b ∷ bytes) h (suc i) = ascii_from bytes (and_parts (nat_lt b 128) (list_all (λ x. nat_lt x 128) bytes) h).1 i

pub is_text-from_ascii : (bytes : List ℕ) → list_all (λ b. nat_lt b 128) bytes ≡ true → has_text_bytes bytes ≡ true → is_text bytes ≡ true
is_text-from_ascii bytes a h = let u = is_utf8-from_IsUtf8 bytes (IsUtf8-from_ascii bytes (ascii_from bytes a)) in grind arith

pub is_text-work : is_text (codes "work") ≡ true
is_text-work = is_text-from_ascii (codes "work") refl refl

pub is_text-stage : is_text (codes "stage") ≡ true
is_text-stage = is_text-from_ascii (codes "stage") refl refl
