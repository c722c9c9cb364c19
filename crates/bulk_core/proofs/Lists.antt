-- Steps of loops over lists.
use Rattle.std.proofs.Common.{◌≡◌, ℕ, ◌+◌, ◌<◌, List, [], ◌∷◌, ◌++◌, length, get_or, take, refl, ap, sym, ◌∙◌, arith, Option, None}
use Rattle.std.specs.Prelude.{map}
use Rattle.std.specs.List.{filter_map, cons_option, range_with_len}
use Rattle.std.proofs.lemmas.List.{take_more, get_or_push, get_or_append_left, length_push}
use Rattle.std.proofs.lemmas.List.Elements.{filter_map-append}
use Rattle.std.proofs.lemmas.List.FromFn.{map-range_with_len_more, length-map-range_with_len, get_or-map-range_with_len, fill_by_all}

pub zero_more : (n : ℕ) → 0 + n ≡ n
zero_more n = omega arith

-- functions that agree below a number
pub agree_below : {X : Type 0} (f g : ℕ → X) (count : ℕ) (d : X) → ((n : ℕ) → n < count → f n ≡ g n) → map f (range_with_len 0 count) ≡ map g (range_with_len 0 count)
agree_below f g count d e =
    fill_by_all g (map f (range_with_len 0 count)) count d (length-map-range_with_len f 0 count) (λ k l. get_or-map-range_with_len f 0 count k k d l (zero_more k) ∙ e k l)

pub gathered_more : {X : Type 0} (f : ℕ → Option X) (nodes : List ℕ) (i : ℕ) (o : Option X) (so_far now : List X) → i < length nodes → o ≡ f (get_or nodes i 0) → so_far ≡ filter_map f (take i nodes)
    → now ≡ so_far ++ cons_option o [] → now ≡ filter_map f (take (i + 1) nodes)
gathered_more f nodes i o so_far now l here before step =
    step ∙ ap (λ xs. xs ++ cons_option o []) before ∙ ap (λ x. filter_map f (take i nodes) ++ cons_option x []) here
    ∙ sym (ap (filter_map f) (take_more nodes i 0 l) ∙ filter_map-append f (take i nodes) (get_or nodes i 0 ∷ []))

pub settled_more : {X Y : Type 0} (f : ℕ → Option X → Y) (xs : List (Option X)) (x : Option X) (y : Y) (before now : List Y) → before ≡ map (λ k. f k (get_or xs k None)) (range_with_len 0 (length xs)) → y ≡ f (length xs) x
    → now ≡ before ++ y ∷ [] → now ≡ map (λ k. f k (get_or (xs ++ x ∷ []) k None)) (range_with_len 0 (length (xs ++ x ∷ [])))
settled_more f xs x y before now b here step =
    step ∙ ap (λ l. l ++ y ∷ []) b
    ∙ ap (λ l. l ++ y ∷ []) (agree_below (λ k. f k (get_or xs k None)) (λ k. f k (get_or (xs ++ x ∷ []) k None)) (length xs) y (λ k l. ap (f k) (sym (get_or_append_left xs (x ∷ []) None k l))))
    ∙ ap (λ z. map (λ k. f k (get_or (xs ++ x ∷ []) k None)) (range_with_len 0 (length xs)) ++ z ∷ []) (here ∙ ap (f (length xs)) (sym (get_or_push xs x None (length xs) refl)))
    ∙ sym (ap (λ n. map (λ k. f k (get_or (xs ++ x ∷ []) k None)) (range_with_len 0 n)) (length_push xs x)
    ∙ map-range_with_len_more (λ k. f k (get_or (xs ++ x ∷ []) k None)) 0 (length xs) (length xs) (let z : 0 + length xs ≡ length xs = omega arith in z))
