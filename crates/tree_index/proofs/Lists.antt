-- Lists whose members all have a property, or differ from each other.
use Rattle.std.proofs.Common.{◌≡◌, ℕ, Bool, true, false, List, [], ◌∷◌, ◌++◌, refl, ap, ◌∙◌, drop, length, get_or, ◌<◌, arith, zero, suc}
use Rattle.std.specs.Prelude.{cond, map, filter}
use Rattle.std.specs.List.{AllByRecursion, IsDistinct}
use Rattle.std.specs.List.Sorted.{IsStrictlySortedBy}
use Rattle.std.specs.declared.cmp.Ordering.{Ordering}
use Rattle.std.specs.declared.cmp.Ordering.TheVariants.{Less}

pub all_append : {X : Type 0} (P : X → Type 0) (xs ys : List X) → AllByRecursion P xs → AllByRecursion P ys → AllByRecursion P (xs ++ ys)
all_append P [] ys h k = k
all_append P (x ∷ xs) ys h k = (h.0, all_append P xs ys h.1 k)

pub all_weaker : {X : Type 0} (P Q : X → Type 0) (xs : List X) → ((x : X) → P x → Q x) → AllByRecursion P xs → AllByRecursion Q xs
all_weaker P Q [] f h = tt
all_weaker P Q (x ∷ xs) f h = (f x h.0, all_weaker P Q xs f h.1)

-- what holds of all by two properties
pub all_both : {X : Type 0} (P Q R : X → Type 0) (xs : List X) → ((x : X) → P x → Q x → R x) → AllByRecursion P xs → AllByRecursion Q xs → AllByRecursion R xs
all_both P Q R [] f h k = tt
all_both P Q R (x ∷ xs) f h k = (f x h.0 k.0, all_both P Q R xs f h.1 k.1)

pub all_mapped : {X Y : Type 0} (P : Y → Type 0) (f : X → Y) (xs : List X) → AllByRecursion (λ x. P (f x)) xs → AllByRecursion P (map f xs)
all_mapped P f [] h = tt
all_mapped P f (x ∷ xs) h = (h.0, all_mapped P f xs h.1)

pub all_unmapped : {X Y : Type 0} (P : Y → Type 0) (f : X → Y) (xs : List X) → AllByRecursion P (map f xs) → AllByRecursion (λ x. P (f x)) xs
all_unmapped P f [] h = tt
all_unmapped P f (x ∷ xs) h = (h.0, all_unmapped P f xs h.1)

pub all_drop : {X : Type 0} (P : X → Type 0) (i : ℕ) (xs : List X) → AllByRecursion P xs → AllByRecursion P (drop i xs)
all_drop P zero xs h = h
all_drop P (suc i) [] h = tt
all_drop P (suc i) (x ∷ xs) h = all_drop P i xs h.1

pub all_at : {X : Type 0} (P : X → Type 0) (xs : List X) (i : ℕ) (d : X) → AllByRecursion P xs → i < length xs → P (get_or xs i d)
all_at P [] i d h l = absurd (omega arith)
all_at P (x ∷ xs) zero d h l = h.0
all_at P (x ∷ xs) (suc i) d h l = all_at P xs i d h.1 (omega arith)

pub sorted_append : {K : Type 0} (c : K → K → Ordering) (ks ls : List K) → IsStrictlySortedBy c ks → IsStrictlySortedBy c ls → AllByRecursion (λ k. AllByRecursion (λ l. c k l ≡ Less) ls) ks
    → IsStrictlySortedBy c (ks ++ ls)
unfolding IsStrictlySortedBy
sorted_append c [] ls s t h = t
sorted_append c (k ∷ ks) ls s t h = (all_append (λ l. c k l ≡ Less) ks ls s.0 h.0, sorted_append c ks ls s.1 t h.1)

pub sorted_drop : {K : Type 0} (c : K → K → Ordering) (i : ℕ) (ks : List K) → IsStrictlySortedBy c ks → IsStrictlySortedBy c (drop i ks)
unfolding IsStrictlySortedBy
sorted_drop c zero ks h = h
sorted_drop c (suc i) [] h = tt
sorted_drop c (suc i) (k ∷ ks) h = sorted_drop c i ks h.1

-- keys that differ among themselves and from each other, one list behind the other
pub distinct_append : {K : Type 0} (e : K → K → Bool) (ks ls : List K) → AllByRecursion (λ k. AllByRecursion (λ l. e k l ≡ false) ls) ks → IsDistinct e ks → IsDistinct e ls → IsDistinct e (ks ++ ls)
unfolding IsDistinct
distinct_append e [] ls a h k = k
distinct_append e (x ∷ ks) ls a h k = (all_append (λ l. e x l ≡ false) ks ls h.0 a.0, distinct_append e ks ls a.1 h.1 k)

-- members that fail a test
pub none_pass : {X : Type 0} (p : X → Bool) (xs : List X) → AllByRecursion (λ x. p x ≡ false) xs → filter p xs ≡ []
none_pass p [] h = refl
none_pass p (x ∷ xs) h = ap (λ b. cond b (x ∷ filter p xs) (filter p xs)) h.0 ∙ none_pass p xs h.1

pub filter_append : {X : Type 0} (p : X → Bool) (xs ys : List X) → filter p (xs ++ ys) ≡ filter p xs ++ filter p ys
filter_append p [] ys = refl
filter_append p (x ∷ xs) ys =
    elim (p x) as (λ b. cond b (x ∷ filter p (xs ++ ys)) (filter p (xs ++ ys)) ≡ cond b (x ∷ filter p xs) (filter p xs) ++ filter p ys) [
      | true ↦ ap (λ zs. x ∷ zs) (filter_append p xs ys)
      | false ↦ filter_append p xs ys
    ]

-- tests that agree
pub filter_same : {X : Type 0} (p q : X → Bool) (xs : List X) → AllByRecursion (λ x. p x ≡ q x) xs → filter p xs ≡ filter q xs
filter_same p q [] h = refl
filter_same p q (x ∷ xs) h = (λ i. cond (h.0 i) (x ∷ filter_same p q xs h.1 i) (filter_same p q xs h.1 i))

-- what holds of each pair, told the other way round
pub transposed : {X Y : Type 0} (R : X → Y → Type 0) (xs : List X) (ys : List Y) → AllByRecursion (λ x. AllByRecursion (R x) ys) xs → AllByRecursion (λ y. AllByRecursion (λ x. R x y) xs) ys
transposed R xs [] h = tt
transposed R xs (y ∷ ys) h = (
  all_weaker (λ x. AllByRecursion (R x) (y ∷ ys)) (λ x. R x y) xs (λ x rows. rows.0) h,
  transposed R xs ys (all_weaker (λ x. AllByRecursion (R x) (y ∷ ys)) (λ x. AllByRecursion (R x) ys) xs (λ x rows. rows.1) h),
)
