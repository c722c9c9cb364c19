-- When a joined line may be read.
use Rattle.std.proofs.Common.{◌≡◌, ℕ, ◌<◌, ◌≤◌, Bool, true, false, List, length, cond, not, ap, ◌∙◌, refl, Result, Ok, Err, nat_le}
use Rattle.std.specs.Prelude.{◌&&◌}
use Rattle.std.specs.Str.{is_utf8}
use Rattle.std.proofs.lemmas.Str.{is_utf8-from_IsUtf8, IsUtf8-from_is_utf8}
use Rattle.std.proofs.lemmas.Bool.{and_from}
use Rattle.bulk_base.specs.Text.{IsText, has_text_bytes}
use Rattle.port_vars.specs.declared.fault.LineKind.{LineKind}
use Rattle.port_vars.specs.declared.fault.LineKind.TheVariants.{NotText, TooLong}
use Rattle.port_vars.specs.Assignment.{readable}
use Rattle.port_vars.proofs.Decided.{and_first, and_second, le_true, le_false}

abbrev is_text : List ℕ → Bool
is_text line = is_utf8 line && has_text_bytes line

text_true : (line : List ℕ) → IsText line → is_text line ≡ true
text_true line h = and_from _ _ (is_utf8-from_IsUtf8 line h.0) h.1

text_false : (line : List ℕ) → (¬ (IsText line)) → (b : Bool) → is_text line ≡ b → b ≡ false
text_false line h true e = absurd (h (IsUtf8-from_is_utf8 line (and_first _ _ e), and_second _ _ e))
text_false line h false e = refl

abbrev read : ℕ → List ℕ → Bool → Bool → Result (List ℕ) LineKind
read limit line text short = cond (not text) (Err NotText) (cond short (Ok line) (Err TooLong))

pub readable_no_text : (limit : ℕ) (line : List ℕ) → (¬ (IsText line)) → readable limit line ≡ Err NotText
unfolding readable
readable_no_text limit line h = ap (λ b. read limit line b (nat_le (length line) limit)) (text_false line h (is_text line) refl)

pub readable_long : (limit : ℕ) (line : List ℕ) → IsText line → limit < length line → readable limit line ≡ Err TooLong
unfolding readable
readable_long limit line h l = ap (λ b. read limit line b (nat_le (length line) limit)) (text_true line h) ∙ ap (read limit line true) (le_false _ _ l)

pub readable_text : (limit : ℕ) (line : List ℕ) → IsText line → length line ≤ limit → readable limit line ≡ Ok line
unfolding readable
readable_text limit line h l = ap (λ b. read limit line b (nat_le (length line) limit)) (text_true line h) ∙ ap (read limit line true) (le_true _ _ l)
