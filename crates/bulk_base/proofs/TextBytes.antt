-- A piece of a text has text bytes too, and so have decimal digits.
use Rattle.std.proofs.Common.{◌≡◌, ℕ, ◌+◌, ◌-◌, ◌%◌, ◌<◌, ◌^◌, Bool, true, List, [], ◌∷◌, ◌++◌, take, drop, arith, ◌∙◌, sym, ap}
use Rattle.std.proofs.lemmas.List.Folds.{list_all-append}
use Rattle.std.proofs.lemmas.List.{take-append-drop}
use Rattle.std.proofs.lemmas.Fmt.{decimal_by_steps}
use Rattle.std.specs.Fmt.{decimal}
use Rattle.std.specs.List.{list_all}
use Rattle.std.specs.Prelude.{◌&&◌}
use Rattle.bulk_base.specs.Text.{is_text_byte, has_text_bytes}
use borrow.Author.Tests.{tests}

both : (a b c : Bool) → c ≡ (a && b) → c ≡ true → (a ≡ true) × (b ≡ true)
both a b c e t = grind arith

pub list_all-drop : {X : Type 0} (p : X → Bool) (n : ℕ) (xs : List X) → list_all p xs ≡ true → list_all p (drop n xs) ≡ true
list_all-drop p n xs h = (both _ _ _ (ap (list_all p) (sym (take-append-drop n xs)) ∙ list_all-append p (take n xs) (drop n xs)) h).1

pub list_all-take : {X : Type 0} (p : X → Bool) (n : ℕ) (xs : List X) → list_all p xs ≡ true → list_all p (take n xs) ≡ true
list_all-take p n xs h = (both _ _ _ (ap (list_all p) (sym (take-append-drop n xs)) ∙ list_all-append p (take n xs) (drop n xs)) h).0

digit_byte : (n : ℕ) → n < 10 → is_text_byte (48 + n) ≡ true
digit_byte n l = search (arith, tests)

more_digits : (ds : List ℕ) (n : ℕ) → n < 10 → has_text_bytes ds ≡ true → has_text_bytes (ds ++ ((48 + n) ∷ [])) ≡ true
more_digits ds n l h = list_all-append is_text_byte ds ((48 + n) ∷ []) ∙ grind (arith, digit_byte n l, h)

pub has_text_bytes-decimal : (n : ℕ) → n < 2 ^ 64 → has_text_bytes (decimal n) ≡ true
has_text_bytes-decimal = decimal_by_steps (λ n ds. has_text_bytes ds ≡ true)
    (λ n l. grind (arith, digit_byte n l))
    (λ n ds l h. more_digits ds (n % 10) (omega arith) h)

pub has_text_bytes-piece : (bs t : List ℕ) (from to : ℕ) → bs ≡ take (to - from) (drop from t) → has_text_bytes t ≡ true → has_text_bytes bs ≡ true
has_text_bytes-piece bs t from to e h = ap has_text_bytes e ∙ list_all-take is_text_byte (to - from) (drop from t) (list_all-drop is_text_byte from t h)
