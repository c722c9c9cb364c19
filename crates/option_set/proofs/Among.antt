-- Lists with the same members answer alike.
use Rattle.std.proofs.Common.{◌≡◌, ℕ, Bool, true, false, List, [], ◌∷◌, ◌++◌, refl, ap, sym, subst, ◌∙◌}
use Rattle.std.specs.Prelude.{◌||◌, bytes_eq}
use Rattle.std.specs.List.{list_any, flat_map}
use Rattle.std.proofs.lemmas.Bool.{false≢true}
use Rattle.std.proofs.lemmas.List.Folds.{list_any-append}
use Rattle.std.proofs.lemmas.Slice.Eq.{bytes_eq-Decides}
use Rattle.port_name.specs.Sets.{is_among}

pub same_bool : (a b : Bool) → (a ≡ true → b ≡ true) → (b ≡ true → a ≡ true) → a ≡ b
same_bool true b f g = sym (f refl)
same_bool false true f g = g refl
same_bool false false f g = refl

or_true : (a : Bool) → (a || true) ≡ true
or_true true = refl
or_true false = refl

or_assoc : (a b c : Bool) → ((a || b) || c) ≡ (a || (b || c))
or_assoc true b c = refl
or_assoc false b c = refl

pub same_name : (a b : List ℕ) → bytes_eq a b ≡ true → a ≡ b
same_name a b e = (bytes_eq-Decides a b).0 e

itself : (a : List ℕ) → bytes_eq a a ≡ true
itself a = (bytes_eq-Decides a a).1 refl

-- a name that passes a test lets a list pass that has it
among_passes : (p : List ℕ → Bool) (name : List ℕ) (xs : List (List ℕ)) → p name ≡ true → is_among xs name ≡ true → list_any p xs ≡ true
among_passes p name [] h m = absurd (false≢true m)
among_passes p name (x ∷ xs) h m = elim (bytes_eq name x) as (λ e. bytes_eq name x ≡ e → (e || is_among xs name) ≡ true → list_any p (x ∷ xs) ≡ true) [
  | true ↦ λ e _. ap (λ b. b || list_any p xs) (subst (λ y. p y ≡ true) (same_name name x e) h)
  | false ↦ λ _ m. ap (λ b. p x || b) (among_passes p name xs h m) ∙ or_true (p x)
] refl m

within_passes : (p : List ℕ → Bool) (xs ys : List (List ℕ)) → ((name : List ℕ) → is_among xs name ≡ true → is_among ys name ≡ true) → list_any p xs ≡ true → list_any p ys ≡ true
within_passes p [] ys within h = absurd (false≢true h)
within_passes p (x ∷ xs) ys within h = elim (p x) as (λ t. p x ≡ t → (t || list_any p xs) ≡ true → list_any p ys ≡ true) [
  | true ↦ λ t _. among_passes p x ys t (within x (ap (λ b. b || is_among xs x) (itself x)))
  | false ↦ λ _ h. within_passes p xs ys (λ name m. within name (ap (λ b. bytes_eq name x || b) m ∙ or_true (bytes_eq name x))) h
] refl h

pub any_same : (p : List ℕ → Bool) (xs ys : List (List ℕ)) → ((name : List ℕ) → is_among xs name ≡ is_among ys name) → list_any p xs ≡ list_any p ys
any_same p xs ys same =
    same_bool (list_any p xs) (list_any p ys) (within_passes p xs ys (λ name m. sym (same name) ∙ m)) (within_passes p ys xs (λ name m. same name ∙ m))

pub among_append : (xs ys : List (List ℕ)) (name : List ℕ) → is_among (xs ++ ys) name ≡ (is_among xs name || is_among ys name)
among_append xs ys name = list_any-append (bytes_eq name) xs ys

-- what lists of some names have
pub among_flat : (f : List ℕ → List (List ℕ)) (xs : List (List ℕ)) (name : List ℕ) → is_among (flat_map f xs) name ≡ list_any (λ x. is_among (f x) name) xs
among_flat f [] name = refl
among_flat f (x ∷ xs) name = among_append (f x) (flat_map f xs) name ∙ ap (λ b. is_among (f x) name || b) (among_flat f xs name)

pub flat_same : (f : List ℕ → List (List ℕ)) (xs ys : List (List ℕ)) → ((name : List ℕ) → is_among xs name ≡ is_among ys name) → (name : List ℕ) → is_among (flat_map f xs) name ≡ is_among (flat_map f ys) name
flat_same f xs ys same name = among_flat f xs name ∙ any_same (λ x. is_among (f x) name) xs ys same ∙ sym (among_flat f ys name)

pub flat_append : (f : List ℕ → List (List ℕ)) (xs ys : List (List ℕ)) (name : List ℕ) → is_among (flat_map f (xs ++ ys)) name ≡ (is_among (flat_map f xs) name || is_among (flat_map f ys) name)
flat_append f xs ys name =
    among_flat f (xs ++ ys) name ∙ list_any-append (λ x. is_among (f x) name) xs ys
    ∙ ap (λ b. b || list_any (λ x. is_among (f x) name) ys) (sym (among_flat f xs name))
    ∙ ap (λ b. is_among (flat_map f xs) name || b) (sym (among_flat f ys name))
