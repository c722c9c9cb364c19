-- SHA-256 of some bytes is 32 bytes, and its text is that of a digest.
use Rattle.std.proofs.Common.{◌≡◌, ℕ, ◌*◌, ◌<◌, ◌-◌, true, List, ◌++◌, length, get_or, zero, suc, arith, refl, ap, ◌∙◌, inl, inr}
use Rattle.std.specs.Prelude.{nat_le}
use Rattle.std.specs.List.{list_all}
use Rattle.std.specs.Int.{to_be_bytes, w32}
use Rattle.std.proofs.lemmas.Bool.{cases_lt, and_from}
use Rattle.std.proofs.lemmas.List.{get_or_append_left, get_or-append_right}
use Rattle.sha2.specs.Sha256.{sha256, digest_bytes}
use Rattle.sha2.proofs.Facts256.{length-sha256}
use Rattle.hex.specs.Hex.{encode_lower, lower_digits, IsBytes}
use Rattle.hex.proofs.HexLemmas.{length-encode_with}
use Rattle.bulk_model.proofs.Digits.{hex_bytes}
use Rattle.bulk_model.specs.Digests.{digest_of, hex, is_hex_byte, is_digest}

sized : (text : List ℕ) → length text ≡ 64 → list_all is_hex_byte text ≡ true → is_digest text ≡ true
sized text size h = and_from _ _ (and_from _ _ (ap (nat_le 64) size) (ap (λ n. nat_le n 64) size)) h

-- the text of 32 bytes
pub sized_form : (bytes : List ℕ) → length bytes ≡ 32 → IsBytes bytes → is_digest (encode_lower bytes) ≡ true
sized_form bytes size h = sized (encode_lower bytes) (length-encode_with lower_digits bytes ∙ ap (λ n. 2 * n) size) (hex_bytes bytes h)

byte_bound : (n : ℕ) (i : ℕ) → get_or (to_be_bytes w32 n) i 0 < 256
byte_bound n zero = omega arith
byte_bound n (suc zero) = omega arith
byte_bound n (suc (suc zero)) = omega arith
byte_bound n (suc (suc (suc zero))) = omega arith
byte_bound n (suc (suc (suc (suc i)))) = omega arith

appended_bytes : (xs ys : List ℕ) → IsBytes xs → IsBytes ys → IsBytes (xs ++ ys)
appended_bytes xs ys h k i = elim (cases_lt i (length xs)) [
  | inl l ↦ rw (get_or_append_left xs ys 0 i l) (h i)
  | inr g ↦ rw (get_or-append_right xs ys (length xs) i 0 refl g) (k (i - length xs))
]

digest_bytes_bound : (h : List ℕ) (n : ℕ) → IsBytes (digest_bytes h n)
unfolding digest_bytes
digest_bytes_bound h zero = λ i. omega arith
digest_bytes_bound h (suc n) = appended_bytes (digest_bytes h n) (to_be_bytes w32 (get_or h n 0)) (digest_bytes_bound h n) (byte_bound (get_or h n 0))

pub sha256_bytes : (m : List ℕ) → IsBytes (sha256 m)
unfolding sha256
sha256_bytes m = digest_bytes_bound _ 8

pub digest_form : (bytes : List ℕ) → is_digest (hex (digest_of bytes)) ≡ true
digest_form bytes = sized_form (sha256 bytes) (length-sha256 bytes) (sha256_bytes bytes)
