-- What stands before the first byte of a kind in a text is a text.
use Rattle.std.proofs.Common.{◌≡◌, ℕ, ◌<◌, Bool, true, List, length, get_or, take, arith, ap, sym, ◌∙◌, inl, inr, subst}
use Rattle.std.specs.Prelude.{◌&&◌}
use Rattle.std.specs.List.{position_or_len, before_first}
use Rattle.std.specs.Str.{is_utf8}
use Rattle.std.proofs.lemmas.List.{take_all}
use Rattle.std.proofs.lemmas.List.Sums.{passes_at_first}
use Rattle.std.proofs.lemmas.Bool.{cases_lt, eqb-true, and_parts}
use Rattle.std.proofs.lemmas.Str.{is_utf8-from_IsUtf8, IsUtf8-from_is_utf8}
use Rattle.bulk_base.specs.Text.{IsText, is_text, has_text_bytes}
use Rattle.port_name.specs.Forms.{is_at}
use Rattle.port_vars.proofs.TextParts.{IsText-before}
use Rattle.port_vars.proofs.Trimmed.{IsText-trim}
use Rattle.origin_flavor.specs.ListFile.{is_hash, word_of}

module _ (p : ℕ → Bool) (ascii : (b : ℕ) → p b ≡ true → b < 128) where
  IsText-before_first : (text : List ℕ) → IsText text → IsText (before_first p text)
  IsText-before_first text h = elim (cases_lt (position_or_len p text) (length text)) [
    | inl l ↦ IsText-before text (position_or_len p text) h l (ascii (get_or text (position_or_len p text) 0) (passes_at_first p text 0 l))
    | inr g ↦ subst IsText (sym (take_all (position_or_len p text) text (omega arith))) h
  ]

  IsText-front : (text : List ℕ) (place : ℕ) → place ≡ position_or_len p text → IsText text → IsText (take place text)
  IsText-front text place e h = subst (λ n. IsText (take n text)) (sym e) (IsText-before_first text h)

hash_ascii : (b : ℕ) → is_hash b ≡ true → b < 128
hash_ascii b h = omega (arith, eqb-true b 35 h)

at_ascii : (b : ℕ) → is_at b ≡ true → b < 128
at_ascii b h = omega (arith, eqb-true b 64 h)

-- the text before `@`
pub IsText-before_at : (text : List ℕ) (place : ℕ) → place ≡ position_or_len is_at text → IsText text → IsText (take place text)
IsText-before_at = IsText-front is_at at_ascii

-- what the test of texts means
pub IsText-from_test : (bytes : List ℕ) → is_text bytes ≡ true → IsText bytes
IsText-from_test bytes h = let parts = and_parts (is_utf8 bytes) (has_text_bytes bytes) h in (IsUtf8-from_is_utf8 bytes parts.0, parts.1)

pub is_text-from_IsText : (bytes : List ℕ) → IsText bytes → is_text bytes ≡ true
is_text-from_IsText bytes h = ap (λ b. b && has_text_bytes bytes) (is_utf8-from_IsUtf8 bytes h.0) ∙ h.1

-- the word of a line that is a text is one
pub is_text-word : (line : List ℕ) → is_text line ≡ true → is_text (word_of line) ≡ true
is_text-word line h = is_text-from_IsText (word_of line) (IsText-trim (before_first is_hash line) (IsText-before_first is_hash hash_ascii line (IsText-from_test line h)))
