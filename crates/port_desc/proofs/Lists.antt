-- What holds of each element of a list, and of each two.
use Rattle.std.proofs.Common.{◌≡◌, Bool, true, false, List, [], ◌∷◌, ◌++◌, cond, refl}
use Rattle.std.specs.Prelude.{map, filter}
use Rattle.std.specs.List.{AllByRecursion, IsDistinct}

pub all_weaker : {X : Type 0} (P Q : X → Type 0) → ((x : X) → P x → Q x) → (xs : List X) → AllByRecursion P xs → AllByRecursion Q xs
all_weaker P Q h [] a = tt
all_weaker P Q h (x ∷ xs) a = (h x a.0, all_weaker P Q h xs a.1)

pub all_both : {X : Type 0} (P Q : X → Type 0) (xs : List X) → AllByRecursion P xs → AllByRecursion Q xs → AllByRecursion (λ x. P x × Q x) xs
all_both P Q [] a b = tt
all_both P Q (x ∷ xs) a b = ((a.0, b.0), all_both P Q xs a.1 b.1)

pub all_append : {X : Type 0} (P : X → Type 0) (xs ys : List X) → AllByRecursion P xs → AllByRecursion P ys → AllByRecursion P (xs ++ ys)
all_append P [] ys a b = b
all_append P (x ∷ xs) ys a b = (a.0, all_append P xs ys a.1 b)

pub all_mapped : {X Y : Type 0} (P : Y → Type 0) (f : X → Y) (xs : List X) → AllByRecursion (λ x. P (f x)) xs → AllByRecursion P (map f xs)
all_mapped P f [] a = tt
all_mapped P f (x ∷ xs) a = (a.0, all_mapped P f xs a.1)

pub all_of : {X : Type 0} (P : X → Type 0) → ((x : X) → P x) → (xs : List X) → AllByRecursion P xs
all_of P h [] = tt
all_of P h (x ∷ xs) = (h x, all_of P h xs)

one_kept : {X : Type 0} (P : X → Type 0) (x : X) (rest : List X) (b : Bool) → P x → AllByRecursion P rest → AllByRecursion P (cond b (x ∷ rest) rest)
one_kept P x rest true here a = (here, a)
one_kept P x rest false here a = a

pub all_kept : {X : Type 0} (P : X → Type 0) (p : X → Bool) (xs : List X) → AllByRecursion P xs → AllByRecursion P (filter p xs)
all_kept P p [] a = tt
all_kept P p (x ∷ xs) a = one_kept P x (filter p xs) (p x) a.0 (all_kept P p xs a.1)

one_passed : {X : Type 0} (p : X → Bool) (x : X) (rest : List X) (b : Bool) → p x ≡ b → AllByRecursion (λ y. p y ≡ true) rest → AllByRecursion (λ y. p y ≡ true) (cond b (x ∷ rest) rest)
one_passed p x rest true here a = (here, a)
one_passed p x rest false here a = a

-- a filter keeps what passes
pub all_passed : {X : Type 0} (p : X → Bool) (xs : List X) → AllByRecursion (λ x. p x ≡ true) (filter p xs)
all_passed p [] = tt
all_passed p (x ∷ xs) = one_passed p x (filter p xs) (p x) refl (all_passed p xs)

one_apart : {X : Type 0} (e : X → X → Bool) (x : X) (rest : List X) (b : Bool) → AllByRecursion (λ y. e x y ≡ false) rest → IsDistinct e rest → IsDistinct e (cond b (x ∷ rest) rest)
unfolding IsDistinct
one_apart e x rest true here d = (here, d)
one_apart e x rest false here d = d

pub distinct_kept : {X : Type 0} (e : X → X → Bool) (p : X → Bool) (xs : List X) → IsDistinct e xs → IsDistinct e (filter p xs)
unfolding IsDistinct
distinct_kept e p [] d = tt
distinct_kept e p (x ∷ xs) d = one_apart e x (filter p xs) (p x) (all_kept (λ y. e x y ≡ false) p xs d.0) (distinct_kept e p xs d.1)

pub distinct_append : {X : Type 0} (e : X → X → Bool) (xs ys : List X) → IsDistinct e xs → IsDistinct e ys → AllByRecursion (λ x. AllByRecursion (λ y. e x y ≡ false) ys) xs → IsDistinct e (xs ++ ys)
unfolding IsDistinct
distinct_append e [] ys d k a = k
distinct_append e (x ∷ xs) ys d k a = (all_append (λ y. e x y ≡ false) xs ys d.0 a.0, distinct_append e xs ys d.1 k a.1)

pub distinct_mapped : {X Y : Type 0} (e : X → X → Bool) (other : Y → Y → Bool) (f : X → Y) → ((a b : X) → e a b ≡ false → other (f a) (f b) ≡ false) → (xs : List X) → IsDistinct e xs → IsDistinct other (map f xs)
unfolding IsDistinct
distinct_mapped e other f h [] d = tt
distinct_mapped e other f h (x ∷ xs) d =
    (all_mapped (λ y. other (f x) y ≡ false) f xs (all_weaker (λ y. e x y ≡ false) (λ y. other (f x) (f y) ≡ false) (h x) xs d.0), distinct_mapped e other f h xs d.1)
