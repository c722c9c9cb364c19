-- What stands before and behind the first bar of a text is a text.
use Rattle.std.proofs.Common.{◌≡◌, ℕ, ◌+◌, ◌-◌, ◌<◌, ◌≤◌, List, length, get_or, take, drop, arith, ◌∙◌, sym, ap, refl, inl, inr, subst}
use Rattle.std.specs.List.{position_or_len, before_first, after_first}
use Rattle.std.specs.Str.{IsCharBoundary}
use Rattle.std.proofs.lemmas.Str.{IsUtf8-between, IsUtf8-nil, IsCharBoundary-start, IsCharBoundary-end, IsCharBoundary-after_ascii, IsCharBoundary-before_ascii}
use Rattle.std.proofs.lemmas.List.{take_all, drop_all, take_rest, length-drop}
use Rattle.std.proofs.lemmas.List.Sums.{passes_at_first}
use Rattle.std.proofs.lemmas.Bool.{cases_lt, eqb-true}
use Rattle.bulk_base.specs.Text.{IsText}
use Rattle.bulk_base.proofs.TextBytes.{list_all-drop, list_all-take}
use Rattle.bulk_base.specs.Text.{is_text_byte}
use Rattle.moved_list.specs.Lines.{is_bar}

between : (bytes : List ℕ) (i j : ℕ) → IsText bytes → i ≤ j → IsCharBoundary bytes i → IsCharBoundary bytes j → IsText (take (j - i) (drop i bytes))
between bytes i j h o bi bj = (IsUtf8-between bytes i j h.0 o bi bj, list_all-take is_text_byte (j - i) (drop i bytes) (list_all-drop is_text_byte i bytes h.1))

from : (bytes : List ℕ) (i : ℕ) → IsText bytes → i ≤ length bytes → IsCharBoundary bytes i → IsText (drop i bytes)
from bytes i h o bi =
    let all : take (length bytes - i) (drop i bytes) ≡ drop i bytes = take_all _ _ (omega (arith, length-drop i bytes)) in
    rw all at (between bytes i (length bytes) h o bi (IsCharBoundary-end bytes))

to : (bytes : List ℕ) (j : ℕ) → IsText bytes → IsCharBoundary bytes j → IsText (take j bytes)
to bytes j h bj = let e : j - 0 ≡ j = omega arith in rw e at (between bytes 0 j h (omega arith) (IsCharBoundary-start bytes h.0) bj)

bar_there : (text : List ℕ) → position_or_len is_bar text < length text → get_or text (position_or_len is_bar text) 0 < 128
bar_there text l = omega (arith, eqb-true (get_or text (position_or_len is_bar text) 0) 124 (passes_at_first is_bar text 0 l))

pub IsText-before_bar : (text : List ℕ) → IsText text → IsText (before_first is_bar text)
IsText-before_bar text h = elim (cases_lt (position_or_len is_bar text) (length text)) [
  | inl l ↦ to text (position_or_len is_bar text) h (IsCharBoundary-before_ascii text (position_or_len is_bar text) l (bar_there text l))
  | inr g ↦ subst IsText (sym (take_all (position_or_len is_bar text) text (omega arith))) h
]

pub IsText-behind_bar : (text : List ℕ) → IsText text → IsText (after_first is_bar text)
IsText-behind_bar text h = elim (cases_lt (position_or_len is_bar text) (length text)) [
  | inl l ↦ from text (position_or_len is_bar text + 1) h (omega arith) (IsCharBoundary-after_ascii text (position_or_len is_bar text) h.0 l (bar_there text l))
  | inr g ↦ subst IsText (sym (drop_all (position_or_len is_bar text + 1) text (omega arith))) (IsUtf8-nil, refl)
]

-- the same of the parts as slices give them
pub IsText-front : (text : List ℕ) (place : ℕ) → place ≡ position_or_len is_bar text → IsText text → IsText (take place text)
IsText-front text place e h = subst (λ n. IsText (take n text)) (sym e) (IsText-before_bar text h)

pub IsText-back : (text : List ℕ) (place : ℕ) → place ≡ position_or_len is_bar text → IsText text → IsText (take (length text - (place + 1)) (drop (place + 1) text))
IsText-back text place e h = subst IsText (sym (take_rest text (place + 1) ∙ ap (λ n. drop (n + 1) text) e)) (IsText-behind_bar text h)
