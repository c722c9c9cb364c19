-- What the tests of digests, names and numbers mean.
use Rattle.std.proofs.Common.{◌≡◌, ℕ, ◌*◌, ◌≤◌, true, false, List, [], ◌∷◌, length, arith, ap, sym, ◌∙◌, inl, inr, refl}
use Rattle.std.specs.Prelude.{◌⊎◌, ◌&&◌, Bool, Option, Some, None, nat_le, nat_lt, cond}
use Rattle.std.specs.Char.{is_ascii_digit}
use Rattle.std.specs.List.{list_all}
use Rattle.std.specs.Option.{option_map}
use Rattle.std.specs.Result.{result_ok}
use Rattle.std.specs.Str.Parse.{digits_value}
use Rattle.std.proofs.lemmas.Bool.{cases_Bool, and_from, and_parts}
use Rattle.std.proofs.lemmas.Bool.Decides.{nat_tests}
use Rattle.hex.specs.Hex.{encode_lower, lower_digits, decode_sized}
use Rattle.hex.proofs.HexLemmas.{length-encode_with, decode_sized-encode_lower}
use Rattle.bulk_base.specs.Number.{is_number, number_of}
use Rattle.bulk_base.specs.Path.{IsPath, is_path}
use Rattle.bulk_base.specs.Text.{IsText, is_text, is_plain_text}
use Rattle.bulk_base.proofs.TextTests.{IsText-from_is_text, is_text-from_IsText, is_text-plain}
use Rattle.bulk_model.specs.declared.digest.Digest.{Digest}
use Rattle.bulk_model.specs.Digests.{hex, is_digest, is_hex_byte}
use Rattle.bulk_model.proofs.Digits.{hex_bytes}
use Rattle.dist_files.specs.Hashes.{IsDigest, digest, digest_said}
use Rattle.dist_files.specs.Lines.{is_file}

sized : (text : List ℕ) → length text ≡ 64 → list_all is_hex_byte text ≡ true → is_digest text ≡ true
sized text size h = and_from _ _ (and_from _ _ (ap (nat_le 64) size) (ap (λ n. nat_le n 64) size)) h

digest_text : (d : Digest) → IsDigest d → is_digest (hex d) ≡ true
digest_text d h = sized (hex d) (length-encode_with lower_digits d.bytes ∙ ap (λ n. 2 * n) h.size) (hex_bytes d.bytes h.bytes)

digest_again : (d : Digest) → IsDigest d → digest_said (hex d) ≡ Some d
unfolding digest_said
digest_again d h =
    ap (λ b. cond b (option_map digest (result_ok (decode_sized (hex d) 32))) None) (digest_text d h)
    ∙ ap (λ r. option_map digest (result_ok r)) (decode_sized-encode_lower d.bytes 32 h.size h.bytes)

-- the digest that has this text, as it is found
pub digest_found : (text : List ℕ) (d : Digest) → IsDigest d → hex d ≡ text → Some d ≡ digest_said text
digest_found text d h e = sym (ap digest_said (sym e) ∙ digest_again d h)

pub no_digest_said : (text : List ℕ) → is_digest text ≡ false → digest_said text ≡ None
unfolding digest_said
no_digest_said text h = ap (λ b. cond b (option_map digest (result_ok (decode_sized text 32))) None) h

-- a path of at most 1,014 bytes is a file's name
pub is_file-path : (name : List ℕ) → IsText name × IsPath name → length name ≤ 1014 → is_file name ≡ true
is_file-path name h l =
    let text : is_text name ≡ true = is_text-from_IsText name h.0 in
    let path : is_path name ≡ true = h.1 in
    let short : nat_le (length name) 1014 ≡ true = grind (arith, nat_tests) in
    and_from _ _ (and_from _ _ text path) short

-- what is no path is no file's name
pub no_file : (name : List ℕ) → (¬ (IsText name × IsPath name)) → is_file name ≡ false
no_file name h = by_form (cases_Bool (is_file name))
  where
    by_form : (is_file name ≡ true) ⊎ (is_file name ≡ false) → is_file name ≡ false
    by_form (inl form) =
        let parts = and_parts (is_text name && is_path name) (nat_le (length name) 1014) form in
        let both = and_parts (is_text name) (is_path name) parts.0 in
        absurd (h (IsText-from_is_text name both.0, both.1))
    by_form (inr none) = none

plain_digits : (digits : List ℕ) → list_all is_ascii_digit digits ≡ true → is_plain_text digits ≡ true
plain_digits [] h = refl
plain_digits (b ∷ rest) h =
    let parts = and_parts (is_ascii_digit b) (list_all is_ascii_digit rest) h in
    and_from _ _ (grind (arith, nat_tests)) (plain_digits rest parts.1)

number_text : (word : List ℕ) → is_number word ≡ true → IsText word
number_text word h =
    let short = and_parts (list_all is_ascii_digit word && nat_lt 0 (length word) && nat_le (length word) 18) _ h in
    let some = and_parts (list_all is_ascii_digit word && nat_lt 0 (length word)) _ short.0 in
    let digits = and_parts (list_all is_ascii_digit word) (nat_lt 0 (length word)) some.0 in
    IsText-from_is_text word (is_text-plain word (plain_digits word digits.0))

-- what is no text spells no number
pub no_number : (word : List ℕ) → (¬ (IsText word)) → number_of word ≡ None
no_number word h = by_form (cases_Bool (is_number word))
  where
    by_form : (is_number word ≡ true) ⊎ (is_number word ≡ false) → number_of word ≡ None
    by_form (inl form) = absurd (h (number_text word form))
    by_form (inr none) = ap (λ b. cond b (Some (digits_value 10 word)) None) none
