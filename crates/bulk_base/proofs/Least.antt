-- The least of the numbers that pass a test, found element by element.
use Rattle.std.proofs.Common.{◌≡◌, ℕ, zero, suc, ◌+◌, ◌<◌, Bool, true, false, List, [], ◌∷◌, ◌++◌, length, get_or, take, refl, ap, sym, ◌∙◌, arith, cond}
use Rattle.std.specs.Prelude.{map, filter, min, Option, Some, None}
use Rattle.std.specs.Option.{option_map_or}
use Rattle.std.proofs.lemmas.List.{take_more, map-append, append-nil}
use Rattle.std.proofs.lemmas.List.Elements.{filter-append}
use Rattle.std.proofs.lemmas.List.Sums.{fold-append}
use Rattle.bulk_base.specs.Least.{least, least_passing}

-- the least so far with one more number
abbrev pub with_number : Bool → ℕ → Option ℕ → Option ℕ
with_number b n so_far = cond b (Some (option_map_or (λ l. min l n) so_far n)) so_far

least_push : (xs : List ℕ) (x : ℕ) → least (xs ++ x ∷ []) ≡ Some (option_map_or (λ l. min l x) (least xs) x)
least_push [] x = refl
least_push (y ∷ ys) x = ap Some (fold-append min y ys (x ∷ []))

least_more : (xs : List ℕ) (x : ℕ) (b : Bool) → least (xs ++ (let l : List ℕ = cond b (x ∷ []) [] in l)) ≡ with_number b x (least xs)
least_more xs x true = least_push xs x
least_more xs x false = ap least (append-nil xs)

-- the numbers are read from the elements of a list
pub least_passing-more : {X : Type 0} (f : X → ℕ) (p : ℕ → Bool) (xs : List X) (i : ℕ) (d : X) (before after : Option ℕ) → i < length xs
    → before ≡ least_passing p (map f (take i xs)) → after ≡ with_number (p (f (get_or xs i d))) (f (get_or xs i d)) before
    → after ≡ least_passing p (map f (take (i + 1) xs))
least_passing-more f p xs i d before after l so_far step =
    step
    ∙ ap (with_number (p (f (get_or xs i d))) (f (get_or xs i d))) so_far
    ∙ sym (least_more (filter p (map f (take i xs))) (f (get_or xs i d)) (p (f (get_or xs i d))))
    ∙ ap least (sym (filter-append p (map f (take i xs)) (f (get_or xs i d) ∷ [])))
    ∙ ap (least_passing p) (sym (map-append f (take i xs) (get_or xs i d ∷ [])))
    ∙ ap (λ m. least_passing p (map f m)) (sym (take_more xs i d l))

none-first : (p : ℕ → Bool) (x : ℕ) (xs : List ℕ) (b : Bool) → p x ≡ b → (least (filter p xs) ≡ None → (k : ℕ) → k < length xs → p (get_or xs k 0) ≡ false)
    → least (cond b (x ∷ filter p xs) (filter p xs)) ≡ None → (k : ℕ) → k < length (x ∷ xs) → p (get_or (x ∷ xs) k 0) ≡ false
none-first p x xs true is rest e k h = absurd (cc)
none-first p x xs false is rest e zero h = is
none-first p x xs false is rest e (suc k) h = rest e k (omega arith)

-- where there is no least, no number passes
pub none-pass : (p : ℕ → Bool) (xs : List ℕ) → least_passing p xs ≡ None → (k : ℕ) → k < length xs → p (get_or xs k 0) ≡ false
none-pass p [] e k h = absurd (omega arith)
none-pass p (x ∷ xs) e k h = none-first p x xs (p x) refl (none-pass p xs) e k h

none-rest : (p : ℕ → Bool) (x : ℕ) (xs : List ℕ) (b : Bool) → b ≡ false → least_passing p xs ≡ None → least (cond b (x ∷ filter p xs) (filter p xs)) ≡ None
none-rest p x xs true e h = absurd (cc)
none-rest p x xs false e h = h

-- and where none passes, there is none
pub all-fail : (p : ℕ → Bool) (xs : List ℕ) → ((k : ℕ) → k < length xs → p (get_or xs k 0) ≡ false) → least_passing p xs ≡ None
all-fail p [] h = refl
all-fail p (x ∷ xs) h = none-rest p x xs (p x) (h 0 (omega arith)) (all-fail p xs (λ k l. h (suc k) (omega arith)))
