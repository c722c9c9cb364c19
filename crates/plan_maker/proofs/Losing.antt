-- What the first of a list says that says something.
use Rattle.std.proofs.Common.{◌≡◌, ◌∙◌, ℕ, ◌+◌, ◌<◌, true, false, List, ap, sym, refl, length, drop, get_or}
use Rattle.std.specs.Prelude.{Option, Some, None, is_some}
use Rattle.std.specs.Option.{option_or}
use Rattle.std.proofs.lemmas.List.{at_drop_more}
use Rattle.plan_maker.specs.Lost.{first_of}

at_first : {A B : Type 0} (says : A → Option B) (xs : List A) (i : ℕ) (x : A) → i < length xs → x ≡ get_or xs i x → first_of says (drop i xs) ≡ option_or (says x) (first_of says (drop (i + 1) xs))
at_first says xs i x l e = at_drop_more (first_of says) xs i x l ∙ ap (λ y. option_or (says y) (first_of says (drop (i + 1) xs))) (sym e)

said : {B : Type 0} (o r : Option B) → is_some o ≡ true → option_or o r ≡ o
said None r h = absurd (cc)
said (Some b) r h = refl

unsaid : {B : Type 0} (o r : Option B) → is_some o ≡ false → option_or o r ≡ r
unsaid None r h = refl
unsaid (Some b) r h = absurd (cc)

pub first_here : {A B : Type 0} (says : A → Option B) (xs : List A) (i : ℕ) (x : A) (lost : Option B) → i < length xs → x ≡ get_or xs i x → lost ≡ says x → is_some lost ≡ true
    → first_of says (drop i xs) ≡ first_of says xs → lost ≡ first_of says xs
first_here says xs i x lost l e s h w =
    sym (said lost (first_of says (drop (i + 1) xs)) h) ∙ ap (λ o. option_or o (first_of says (drop (i + 1) xs))) s ∙ sym (at_first says xs i x l e) ∙ w

pub first_next : {A B : Type 0} (says : A → Option B) (xs : List A) (i : ℕ) (x : A) (lost : Option B) → i < length xs → x ≡ get_or xs i x → lost ≡ says x → is_some lost ≡ false
    → first_of says (drop i xs) ≡ first_of says xs → first_of says (drop (i + 1) xs) ≡ first_of says xs
first_next says xs i x lost l e s h w =
    sym (unsaid (says x) (first_of says (drop (i + 1) xs)) (ap is_some (sym s) ∙ h)) ∙ sym (at_first says xs i x l e) ∙ w
