-- What is found of a list, one element after another.
use Rattle.std.proofs.Common.{◌≡◌, ◌∙◌, ℕ, ◌+◌, ◌<◌, List, [], ◌∷◌, ◌++◌, ap, sym, refl, length, take, get_or}
use Rattle.std.specs.Prelude.{Option, Some, None}
use Rattle.std.specs.Option.{option_to_list}
use Rattle.std.specs.List.{filter_map, cons_option}
use Rattle.std.proofs.lemmas.List.{take_more}
use Rattle.std.proofs.lemmas.List.Elements.{filter_map-append}

one_more : {X : Type 0} (o : Option X) → option_to_list o ≡ cons_option o []
one_more None = refl
one_more (Some x) = refl

pub found_in_loop : {X Y : Type 0} (h : X → Option Y) (xs : List X) (i : ℕ) (x : X) (before now : List Y) (found : Option Y) → i < length xs → x ≡ get_or xs i x
    → before ≡ filter_map h (take i xs) → found ≡ h x → now ≡ before ++ option_to_list found → now ≡ filter_map h (take (i + 1) xs)
found_in_loop h xs i x before now found l p b f n =
    n ∙ (λ t. b t ++ option_to_list (f t)) ∙ ap (λ o. filter_map h (take i xs) ++ o) (one_more (h x)) ∙ ap (λ y. filter_map h (take i xs) ++ cons_option (h y) []) p
    ∙ sym (ap (filter_map h) (take_more xs i x l) ∙ filter_map-append h (take i xs) (get_or xs i x ∷ []))
