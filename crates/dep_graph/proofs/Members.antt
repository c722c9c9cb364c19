-- What a list of numbers has, and the numbers below a bound.
use Rattle.std.proofs.Common.{◌≡◌, ℕ, ◌+◌, ◌<◌, ◌≤◌, Bool, true, false, List, [], ◌∷◌, ◌++◌, length, get_or, refl, ap, sym, subst, ◌∙◌, arith, cond, nat_eq, Some, None, inl, inr, ◌⊎◌}
use Rattle.std.specs.Prelude.{◌==◌, ◌||◌, ◌&&◌, filter}
use Rattle.std.specs.List.{range_with_len, All, IsDistinct, Any}
use Rattle.std.proofs.lemmas.Bool.{eq-eqb, eqb-true}
use Rattle.std.proofs.lemmas.List.{map-id, get_or_default, get_or_read}
use Rattle.std.proofs.lemmas.List.FromFn.{map-range_with_len_more, length-range_with_len, get_or-range_with_len}
use Rattle.std.proofs.lemmas.List.Folds.{list_any-append, list_any_at, Any-from_list_any}
use Rattle.std.proofs.lemmas.List.Elements.{All-from_get_or, All-get_or, All-head, All-tail, filter-append}
use Rattle.std.proofs.lemmas.Map.Steps.{length-le_from_distinct_below}
use Rattle.std.specs.List.{slice_get}
use Rattle.std.proofs.lemmas.Option.{slice_get_cases}
use Rattle.dep_graph.specs.Graphs.{has}

pub same_bool : (a b : Bool) → (a ≡ true → b ≡ true) → (b ≡ true → a ≡ true) → a ≡ b
same_bool true b f g = sym (f refl)
same_bool false true f g = g refl
same_bool false false f g = refl

pub has-append : (xs ys : List ℕ) (n : ℕ) → has (xs ++ ys) n ≡ (has xs n || has ys n)
has-append xs ys n = list_any-append (λ x. n == x) xs ys

pub has_at : (xs : List ℕ) (i : ℕ) → i < length xs → has xs (get_or xs i 0) ≡ true
has_at xs i l = list_any_at (λ x. get_or xs i 0 == x) xs i 0 l (eq-eqb (get_or xs i 0) (get_or xs i 0) refl)

-- a place at which the list has a number
pub record Place (xs : List ℕ) (n : ℕ) : Type 0 where
  pub at : ℕ
  pub within : at < length xs
  pub is : get_or xs at 0 ≡ n

pub place_of : (xs : List ℕ) (n : ℕ) → has xs n ≡ true → Place xs n
place_of xs n h =
    let found : Any (λ x. (n == x) ≡ true) xs = Any-from_list_any (λ x. n == x) xs h in
    record { at = found.0; within = found.2; is = get_or_default xs found.0 0 found.1 found.2 ∙ found.3 ∙ sym (eqb-true n found.1 found.4) }

pub has_from_place : (xs : List ℕ) (n i : ℕ) → i < length xs → get_or xs i 0 ≡ n → has xs n ≡ true
has_from_place xs n i l e = subst (λ x. has xs x ≡ true) e (has_at xs i l)

pub all_has : (P : ℕ → Type 0) (xs : List ℕ) (n : ℕ) → All P xs → has xs n ≡ true → P n
all_has P xs n all h = let place : Place xs n = place_of xs n h in subst P place.is (All-get_or P xs place.at 0 place.within all)

pub all_from_has : (P : ℕ → Type 0) (xs : List ℕ) → ((n : ℕ) → has xs n ≡ true → P n) → All P xs
all_from_has P xs f = All-from_get_or P xs 0 (λ i l. f (get_or xs i 0) (has_at xs i l))

-- the numbers below a bound
pub range_more : (n : ℕ) → range_with_len 0 (n + 1) ≡ range_with_len 0 n ++ n ∷ []
range_more n =
    let zero_more : 0 + n ≡ n = omega arith in
    sym (map-id (range_with_len 0 (n + 1))) ∙ map-range_with_len_more (λ x. x) 0 n n zero_more ∙ ap (λ l. l ++ n ∷ []) (map-id (range_with_len 0 n))

zero_add : (n : ℕ) → 0 + n ≡ n
zero_add n = omega arith

pub has-range : (count n : ℕ) → n < count → has (range_with_len 0 count) n ≡ true
has-range count n l =
    has_from_place (range_with_len 0 count) n n (let e : length (range_with_len 0 count) ≡ count = length-range_with_len 0 count in omega arith)
    (get_or-range_with_len 0 count n 0 l ∙ zero_add n)

pub below-range : (count n : ℕ) → has (range_with_len 0 count) n ≡ true → n < count
below-range count n h =
    let place : Place (range_with_len 0 count) n = place_of (range_with_len 0 count) n h in
    let size : length (range_with_len 0 count) ≡ count = length-range_with_len 0 count in
    let l : place.at < count = (let w : place.at < length (range_with_len 0 count) = place.within in omega arith) in
    let e : 0 + place.at ≡ n = sym (get_or-range_with_len 0 count place.at 0 l) ∙ place.is in
    omega arith

pub filter_range_more : (p : ℕ → Bool) (n : ℕ) → filter p (range_with_len 0 (n + 1)) ≡ filter p (range_with_len 0 n) ++ cond (p n) (n ∷ []) []
filter_range_more p n = ap (filter p) (range_more n) ∙ filter-append p (range_with_len 0 n) (n ∷ [])

abbrev kept : Bool → ℕ → List ℕ → List ℕ
kept b x xs = cond b (x ∷ xs) xs

has_kept : (p : ℕ → Bool) (x : ℕ) (xs : List ℕ) (n : ℕ) (rest : Bool) (b : Bool) → p x ≡ b → (same : Bool) → (n == x) ≡ same → has xs n ≡ (p n && rest)
    → has (kept b x xs) n ≡ (p n && (same || rest))
has_kept p x xs n rest true e true s h = ap (λ c. c || has xs n) s ∙ sym (ap (λ c. c && true) (ap p (eqb-true n x s) ∙ e))
has_kept p x xs n rest true e false s h = ap (λ c. c || has xs n) s ∙ h
has_kept p x xs n rest false e true s h = h ∙ ap (λ c. c && rest) (ap p (eqb-true n x s) ∙ e) ∙ sym (ap (λ c. c && true) (ap p (eqb-true n x s) ∙ e))
has_kept p x xs n rest false e false s h = h

never : (b : Bool) → false ≡ (b && false)
never true = refl
never false = refl

pub has-filter : (p : ℕ → Bool) (xs : List ℕ) (n : ℕ) → has (filter p xs) n ≡ (p n && has xs n)
has-filter p [] n = never (p n)
has-filter p (x ∷ xs) n =
    has_kept p x (filter p xs) n (has xs n) (p x) refl (n == x) refl (has-filter p xs n)

pub filter_agree : (p q : ℕ → Bool) (xs : List ℕ) → All (λ x. p x ≡ q x) xs → filter p xs ≡ filter q xs
filter_agree p q [] all = refl
filter_agree p q (x ∷ xs) all =
    ap (λ b. kept b x (filter p xs)) (All-head (λ x. p x ≡ q x) x xs all)
    ∙ ap (kept (q x) x) (filter_agree p q xs (All-tail (λ x. p x ≡ q x) x xs all))

pub filter_agree_below : (p q : ℕ → Bool) (count : ℕ) → ((n : ℕ) → n < count → p n ≡ q n) → filter p (range_with_len 0 count) ≡ filter q (range_with_len 0 count)
filter_agree_below p q count f = filter_agree p q (range_with_len 0 count) (all_from_has (λ x. p x ≡ q x) (range_with_len 0 count) (λ n h. f n (below-range count n h)))

-- numbers below a bound, each once, are at most so many
pub at_most : (xs : List ℕ) (count : ℕ) → IsDistinct nat_eq xs → All (λ n. n < count) xs → length xs ≤ count
at_most xs count once below = length-le_from_distinct_below xs count once (λ n h. all_has (λ n. n < count) xs n below h)

pub filter_more : (p : ℕ → Bool) (n : ℕ) (b : Bool) (so_far now : List ℕ) → so_far ≡ filter p (range_with_len 0 n) → p n ≡ b → now ≡ so_far ++ cond b (n ∷ []) []
    → now ≡ filter p (range_with_len 0 (n + 1))
filter_more p n b so_far now e is step =
    step ∙ ap (λ l. l ++ cond b (n ∷ []) []) e ∙ ap (λ x. filter p (range_with_len 0 n) ++ cond x (n ∷ []) []) (sym is) ∙ sym (filter_range_more p n)

-- the marked places, one place further
pub marked_more : (p : ℕ → Bool) (marks : List Bool) (n : ℕ) (b : Bool) (so_far now : List ℕ) → n < length marks → b ≡ get_or marks n b → get_or marks n false ≡ p n
    → so_far ≡ filter p (range_with_len 0 n) → now ≡ so_far ++ cond b (n ∷ []) [] → now ≡ filter p (range_with_len 0 (n + 1))
marked_more p marks n b so_far now l read is e step =
    let same : b ≡ p n = get_or_read marks n b l read false ∙ is in
    step ∙ ap (λ l. l ++ cond b (n ∷ []) []) e ∙ ap (λ x. filter p (range_with_len 0 n) ++ cond x (n ∷ []) []) same ∙ sym (filter_range_more p n)

-- what `get` gives
got_case : (xs : List ℕ) (i x : ℕ) → Some x ≡ slice_get xs i
    → ((y : ℕ) × (i < length xs) × (slice_get xs i ≡ Some y) × (get_or xs i y ≡ y)) ⊎ ((length xs ≤ i) × (slice_get xs i ≡ None)) → (i < length xs) × (get_or xs i 0 ≡ x)
got_case xs i x h (inl some) =
    let same : some.0 ≡ x = (let e : Some some.0 ≡ Some x = sym some.2 ∙ sym h in cc) in
    (some.1, get_or_default xs i 0 some.0 some.1 ∙ some.3 ∙ same)
got_case xs i x h (inr none) = absurd (let e : Some x ≡ None = h ∙ none.1 in cc)

pub got : (xs : List ℕ) (i x : ℕ) → Some x ≡ slice_get xs i → (i < length xs) × (get_or xs i 0 ≡ x)
got xs i x h = got_case xs i x h (slice_get_cases xs i).1

not_got_case : (xs : List ℕ) (i : ℕ) → None ≡ slice_get xs i
    → ((y : ℕ) × (i < length xs) × (slice_get xs i ≡ Some y) × (get_or xs i y ≡ y)) ⊎ ((length xs ≤ i) × (slice_get xs i ≡ None)) → length xs ≤ i
not_got_case xs i h (inl some) = absurd (let e : None ≡ Some some.0 = h ∙ some.2 in cc)
not_got_case xs i h (inr none) = none.0

pub not_got : (xs : List ℕ) (i : ℕ) → None ≡ slice_get xs i → length xs ≤ i
not_got xs i h = not_got_case xs i h (slice_get_cases xs i).1
