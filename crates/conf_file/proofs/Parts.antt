-- Parts of a line of poudriere.conf are texts.
use Rattle.std.proofs.Common.{◌≡◌, ℕ, ◌+◌, ◌<◌, Bool, true, false, List, [], ◌∷◌, length, get_or, drop, cond, arith, sym, ap, refl, inl, inr, subst}
use Rattle.std.specs.Prelude.{◌==◌, ◌||◌, ◌&&◌, unwrap_or, Some, None, nat_eq, codes}
use Rattle.std.specs.List.{position_or_len, before_first, after_first, starts_with, list_any}
use Rattle.std.proofs.lemmas.Str.{IsCharBoundary-before_ascii}
use Rattle.std.proofs.lemmas.List.{take_all, drop_all, get_or_past}
use Rattle.std.proofs.lemmas.List.Sums.{passes_at_first}
use Rattle.std.proofs.lemmas.Bool.{cases_lt, eqb-true, and_parts}
use Rattle.std.proofs.lemmas.Bool.Decides.{nat_tests}
use Rattle.bulk_base.specs.Text.{IsText}
use Rattle.bulk_base.specs.Words.{is_blank}
use Rattle.bulk_base.specs.Trim.{trim, trim_start}
use Rattle.bulk_base.specs.Marks.{is_mark, front, back}
use Rattle.port_vars.proofs.TextParts.{IsText-nil, IsText-before, IsText-after, IsText-from}
use Rattle.port_vars.proofs.Trimmed.{IsText-trim, IsText-trim_start}
use Rattle.conf_file.specs.Lines.{says_nothing, is_exported, statement, quoted, plain, value_in}

IsText-before_first : (p : ℕ → Bool) → ((b : ℕ) → p b ≡ true → b < 128) → (text : List ℕ) → IsText text → IsText (before_first p text)
IsText-before_first p ascii text h = elim (cases_lt (position_or_len p text) (length text)) [
  | inl l ↦ IsText-before text (position_or_len p text) h l (ascii (get_or text (position_or_len p text) 0) (passes_at_first p text 0 l))
  | inr g ↦ subst IsText (sym (take_all (position_or_len p text) text (omega arith))) h
]

IsText-after_first : (p : ℕ → Bool) → ((b : ℕ) → p b ≡ true → b < 128) → (text : List ℕ) → IsText text → IsText (after_first p text)
IsText-after_first p ascii text h = elim (cases_lt (position_or_len p text) (length text)) [
  | inl l ↦ IsText-after text (position_or_len p text) h l (ascii (get_or text (position_or_len p text) 0) (passes_at_first p text 0 l))
  | inr g ↦ subst IsText (sym (drop_all (position_or_len p text + 1) text (omega arith))) IsText-nil
]

mark_ascii : (mark : ℕ) → mark < 128 → (b : ℕ) → is_mark mark b ≡ true → b < 128
mark_ascii mark l b e = omega (arith, eqb-true b mark e)

blank_ascii : (b : ℕ) → is_blank b ≡ true → b < 128
blank_ascii b h = grind (arith, nat_tests)

pub IsText-front : (mark : ℕ) → mark < 128 → (text : List ℕ) → IsText text → IsText (front mark text)
IsText-front mark l text h = IsText-before_first (is_mark mark) (mark_ascii mark l) text h

pub IsText-back : (mark : ℕ) → mark < 128 → (text : List ℕ) → IsText text → IsText (back mark text)
IsText-back mark l text h = IsText-after_first (is_mark mark) (mark_ascii mark l) text h

-- a blank is there, so the text goes on so far
blank_within : (text : List ℕ) → is_blank (get_or text 6 0) ≡ true → 6 < length text
blank_within text h = elim (cases_lt 6 (length text)) [
  | inl l ↦ l
  | inr g ↦ absurd (blank_past (get_or text 6 0) (get_or_past text 6 0 (omega arith)) h)
] where
  blank_past : (b : ℕ) → b ≡ 0 → is_blank b ≡ true → ⊥
  blank_past b e h = grind (arith, nat_tests)

exported_case : (text : List ℕ) (t : Bool) → is_exported text ≡ t → IsText text → IsText (cond t (trim_start (drop 6 text)) text)
exported_case text true e h =
    let blank = (and_parts (starts_with nat_eq text (codes "export")) (is_blank (get_or text 6 0)) e).1 in
    let l : 6 < length text = blank_within text blank in
    IsText-trim_start (drop 6 text) (IsText-from text 6 h (omega arith) (IsCharBoundary-before_ascii text 6 l (blank_ascii (get_or text 6 0) blank)))
exported_case text false e h = h

pub IsText-statement : (line : List ℕ) → IsText line → IsText (statement line)
IsText-statement line h = exported_case (trim line) (is_exported (trim line)) refl (IsText-trim line h)

same_value : (a b : List ℕ) → Some a ≡ Some b → a ≡ b
same_value a b e = ap (λ o. unwrap_or o []) e

some_case : (t : Bool) (a v : List ℕ) → IsText a → cond t (Some a) None ≡ Some v → IsText v
some_case true a v h e = subst IsText (same_value a v e) h
some_case false a v h e = absurd (cc)

mark_case : (b : ℕ) (rest v : List ℕ) (t : Bool) → ((b == 34) || (b == 39)) ≡ t → IsText (b ∷ rest)
    → cond t (quoted b rest) (plain (b ∷ rest)) ≡ Some v → IsText v
mark_case b rest v true t h e =
    let l : b < 128 = grind (arith, nat_tests) in
    some_case (list_any (is_mark b) rest && says_nothing (back b rest)) (front b rest) v (IsText-front b l rest (IsText-after (b ∷ rest) 0 h (omega arith) l)) e
mark_case b rest v false t h e =
    some_case (says_nothing (drop (position_or_len is_blank (b ∷ rest)) (b ∷ rest))) (before_first is_blank (b ∷ rest)) v (IsText-before_first is_blank blank_ascii (b ∷ rest) h) e

pub IsText-value : (text v : List ℕ) → IsText text → value_in text ≡ Some v → IsText v
IsText-value [] v h e = subst IsText (same_value [] v e) IsText-nil
IsText-value (b ∷ rest) v h e = mark_case b rest v ((b == 34) || (b == 39)) refl h e
