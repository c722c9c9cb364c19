-- What the tests of texts mean.
use Rattle.std.proofs.Common.{◌≡◌, ℕ, Bool, true, false, List, [], ◌∷◌, zero, suc, arith, sym, refl, Result, Ok, Err}
use Rattle.std.specs.Result.{is_ok, MatchResult}
use Rattle.std.specs.Str.{IsUtf8, IsAscii, is_utf8}
use Rattle.std.proofs.lemmas.Bool.Decides.{nat_tests}
use Rattle.std.proofs.lemmas.Str.{is_utf8-from_IsUtf8, IsUtf8-from_is_utf8, IsUtf8-from_ascii}
use Rattle.bulk_base.specs.Text.{IsText, is_text, is_plain_text, has_text_bytes}

not_utf8 : (bytes : List ℕ) → (¬ (IsUtf8 bytes)) → (b : Bool) → is_utf8 bytes ≡ b → false ≡ b
not_utf8 bytes h true e = absurd (h (IsUtf8-from_is_utf8 bytes e))
not_utf8 bytes h false e = refl

pub utf8_test : {S E : Type 0} (r : Result S E) (bytes : List ℕ) (P : S → Type 0) (Q : E → Type 0) → MatchResult r (λ s. P s × IsUtf8 bytes) (λ e. ¬ (IsUtf8 bytes) × Q e) → is_ok r ≡ is_utf8 bytes
utf8_test (Ok s) bytes P Q h = sym (is_utf8-from_IsUtf8 bytes h.1)
utf8_test (Err e) bytes P Q h = not_utf8 bytes h.0 (is_utf8 bytes) refl

pub is_text-from_IsText : (bytes : List ℕ) → IsText bytes → is_text bytes ≡ true
is_text-from_IsText bytes h = let utf8 = is_utf8-from_IsUtf8 bytes h.0 in let text = h.1 in grind arith

pub IsText-from_is_text : (bytes : List ℕ) → is_text bytes ≡ true → IsText bytes
IsText-from_is_text bytes h = (IsUtf8-from_is_utf8 bytes (grind arith), grind arith)

plain_is_ascii : (bytes : List ℕ) → is_plain_text bytes ≡ true → IsAscii bytes
plain_is_ascii [] h i = omega arith
plain_is_ascii (b ∷ bytes) h zero = grind (arith, nat_tests)
plain_is_ascii (b ∷ bytes) h (suc i) = plain_is_ascii bytes (grind arith) i

plain_is_text : (bytes : List ℕ) → is_plain_text bytes ≡ true → has_text_bytes bytes ≡ true
plain_is_text [] h = refl
plain_is_text (b ∷ bytes) h = let rest : has_text_bytes bytes ≡ true = plain_is_text bytes (grind arith) in grind arith

pub is_text-plain : (bytes : List ℕ) → is_plain_text bytes ≡ true → is_text bytes ≡ true
is_text-plain bytes h =
    let utf8 : is_utf8 bytes ≡ true = is_utf8-from_IsUtf8 bytes (IsUtf8-from_ascii bytes (plain_is_ascii bytes h)) in
    let text : has_text_bytes bytes ≡ true = plain_is_text bytes h in
    grind arith
