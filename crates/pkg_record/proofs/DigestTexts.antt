-- A digest is read from its text.
use Rattle.std.proofs.Common.{◌≡◌, ◌<◌, true, false, ℕ, List, length, arith, ap, sym, ◌∙◌, inl, inr}
use Rattle.std.specs.Prelude.{◌⊎◌, ◌↔◌, Bool, Option, Some, None, IsNone, is_some, not, cond}
use Rattle.std.specs.Option.{option_map}
use Rattle.std.specs.Result.{result_ok}
use Rattle.std.proofs.lemmas.Bool.{cases_Bool}
use Rattle.std.proofs.lemmas.Bool.Decides.{nat_tests}
use Rattle.hex.specs.Hex.{decode_sized}
use Rattle.hex.proofs.HexLemmas.{decode_sized-encode_lower}
use Rattle.bulk_model.specs.declared.digest.Digest.{Digest}
use Rattle.bulk_model.specs.Digests.{hex, is_digest}
use Rattle.bulk_model.proofs.Digits.{decoded}
use Rattle.pkg_record.specs.Laws.{IsDigest}
use Rattle.pkg_record.specs.Said.{digest, digest_said}
use Rattle.pkg_record.proofs.Hashes.{sized_form}

abbrev some : Digest → Option Digest
some d = Some d

some_is : (a b : Digest) → some a ≡ some b → a ≡ b
some_is a b e = cc

pub digest_text : (d : Digest) → IsDigest d → is_digest (hex d) ≡ true
digest_text d h = sized_form d.bytes h.size h.bytes

pub digest_again : (d : Digest) → IsDigest d → digest_said (hex d) ≡ Some d
unfolding digest_said
digest_again d h =
    ap (λ b. cond b (option_map digest (result_ok (decode_sized (hex d) 32))) None) (digest_text d h)
    ∙ ap (λ r. option_map digest (result_ok r)) (decode_sized-encode_lower d.bytes 32 h.size h.bytes)

pub no_digest_said : (text : List ℕ) → is_digest text ≡ false → digest_said text ≡ None
unfolding digest_said
no_digest_said text h = ap (λ b. cond b (option_map digest (result_ok (decode_sized text 32))) None) h

-- a text that says a digest is that digest's
pub digest_is : (text : List ℕ) (d : Digest) → digest_said text ≡ Some d → (is_digest text ≡ true) × (text ≡ hex d)
unfolding digest_said
digest_is text d e = by_form (cases_Bool (is_digest text))
  where
    by_form : (is_digest text ≡ true) ⊎ (is_digest text ≡ false) → (is_digest text ≡ true) × (text ≡ hex d)
    by_form (inl form) =
        let t = decoded text form in
        let said : digest_said text ≡ Some (digest t.0) =
        ap (λ b. cond b (option_map digest (result_ok (decode_sized text 32))) None) form ∙ ap (λ r. option_map digest (result_ok r)) t.1 in
        (form, sym t.2 ∙ ap hex (some_is (digest t.0) d (sym said ∙ e)))
    by_form (inr none) = let no : None ≡ Some d = sym (no_digest_said text none) ∙ e in absurd cc

pub digest_taken : (text : List ℕ) (d : Digest) → digest_said text ≡ Some d → text ≡ hex d
digest_taken text d e = (digest_is text d e).1

filled : (text : List ℕ) → is_digest text ≡ true → 0 < length text
filled text h = grind (arith, nat_tests)

pub digest_filled : (text : List ℕ) (d : Digest) → digest_said text ≡ Some d → 0 < length text
digest_filled text d e = filled text (digest_is text d e).0

-- the digest that has this text, as it is found
pub digest_found : (text : List ℕ) (d : Digest) → IsDigest d → hex d ≡ text → some d ≡ digest_said text
digest_found text d h e = sym (ap digest_said (sym e) ∙ digest_again d h)

pub has_form : (text : List ℕ) (r : Option Digest) (b : Bool) → IsNone r ↔ (is_digest text ≡ false) → is_some r ≡ not b → b ≡ false → is_digest text ≡ true
has_form text (Some d) b none is there = by_form (cases_Bool (is_digest text))
  where
    by_form : (is_digest text ≡ true) ⊎ (is_digest text ≡ false) → is_digest text ≡ true
    by_form (inl h) = h
    by_form (inr h) = let no = none.1 h in absurd cc
has_form text None b none is there = let no : false ≡ true = is ∙ ap not there in absurd cc
