-- The least of some numbers.
use Rattle.std.proofs.Common.{◌≡◌, ℕ, ◌<◌, ◌≤◌, Bool, true, false, List, [], ◌∷◌, refl, ap, sym, subst, ◌∙◌, arith, min, Some, None, inl, inr, ◌⊎◌}
use Rattle.std.specs.Prelude.{◌==◌, ◌||◌}
use Rattle.std.specs.List.{fold}
use Rattle.std.proofs.lemmas.Bool.{eq-eqb, eqb-true, both_ways, cases_lt, or_right, or_left}
use Rattle.dep_graph.specs.Graphs.{has}
use Rattle.bulk_base.specs.Least.{least}

pub has_head : (x : ℕ) (xs : List ℕ) → has (x ∷ xs) x ≡ true
has_head x xs = or_left (x == x) (has xs x) (eq-eqb x x refl)

pub has_tail : (x n : ℕ) (xs : List ℕ) → has xs n ≡ true → has (x ∷ xs) n ≡ true
has_tail x n xs h = or_right (n == x) (has xs n) h

member_case : (n x : ℕ) (rest : Bool) → ((n == x) || rest) ≡ true → (b : Bool) → (n == x) ≡ b → (n ≡ x) ⊎ (rest ≡ true)
member_case n x rest h true e = inl (eqb-true n x e)
member_case n x rest h false e = inr (sym (ap (λ b. b || rest) e) ∙ h)

pub member : (n x : ℕ) (xs : List ℕ) → has (x ∷ xs) n ≡ true → (n ≡ x) ⊎ (has xs n ≡ true)
member n x xs h = member_case n x (has xs n) h (n == x) refl

-- the least is one of the numbers
lesser_has : (x y m : ℕ) (xs : List ℕ) → (x < y) ⊎ (y ≤ x) → (m ≡ min x y) ⊎ (has xs m ≡ true) → has (x ∷ y ∷ xs) m ≡ true
lesser_has x y m xs (inl l) (inl e) = let s : m ≡ x = omega arith in subst (λ k. has (k ∷ y ∷ xs) m ≡ true) s (has_head m (y ∷ xs))
lesser_has x y m xs (inr l) (inl e) = let s : m ≡ y = omega arith in subst (λ k. has (x ∷ k ∷ xs) m ≡ true) s (has_tail x m (m ∷ xs) (has_head m xs))
lesser_has x y m xs c (inr h) = has_tail x m (y ∷ xs) (has_tail y m xs h)

fold_min-has : (xs : List ℕ) (x : ℕ) → has (x ∷ xs) (fold min x xs) ≡ true
fold_min-has [] x = has_head x []
fold_min-has (y ∷ xs) x = lesser_has x y (fold min (min x y) xs) xs (cases_lt x y) (member (fold min (min x y) xs) (min x y) xs (fold_min-has xs (min x y)))

-- and no other is less
only_le : (x n : ℕ) → (n ≡ x) ⊎ (has [] n ≡ true) → x ≤ n
only_le x n (inl e) = omega arith
only_le x n (inr h) = absurd (both_ways false refl h)

later_le : (x y n least : ℕ) (xs : List ℕ) → ((m : ℕ) → has (min x y ∷ xs) m ≡ true → least ≤ m) → (n ≡ y) ⊎ (has xs n ≡ true) → least ≤ n
later_le x y n least xs most (inl e) = let l : least ≤ min x y = most (min x y) (has_head (min x y) xs) in omega arith
later_le x y n least xs most (inr h) = most n (has_tail (min x y) n xs h)

first_le : (x y n least : ℕ) (xs : List ℕ) → ((m : ℕ) → has (min x y ∷ xs) m ≡ true → least ≤ m) → (n ≡ x) ⊎ (has (y ∷ xs) n ≡ true) → least ≤ n
first_le x y n least xs most (inl e) = let l : least ≤ min x y = most (min x y) (has_head (min x y) xs) in omega arith
first_le x y n least xs most (inr h) = later_le x y n least xs most (member n y xs h)

fold_min-le : (xs : List ℕ) (x n : ℕ) → has (x ∷ xs) n ≡ true → fold min x xs ≤ n
fold_min-le [] x n h = only_le x n (member n x [] h)
fold_min-le (y ∷ xs) x n h = first_le x y n (fold min (min x y) xs) xs (fold_min-le xs (min x y)) (member n x (y ∷ xs) h)

-- a least number of some
pub record IsLeast (numbers : List ℕ) (m : ℕ) : Type 0 where
  pub one : has numbers m ≡ true
  pub most : (n : ℕ) → has numbers n ≡ true → m ≤ n

pub least_is : (numbers : List ℕ) (m : ℕ) → least numbers ≡ Some m → IsLeast numbers m
least_is [] m e = absurd (let n : None ≡ Some m = e in cc)
least_is (x ∷ xs) m e =
    let same : fold min x xs ≡ m = (let s : Some (fold min x xs) ≡ Some m = e in cc) in
    subst (IsLeast (x ∷ xs)) same (record { one = fold_min-has xs x; most = fold_min-le xs x })

pub least_from : (numbers : List ℕ) (m : ℕ) → IsLeast numbers m → least numbers ≡ Some m
least_from [] m l = absurd (both_ways false refl l.one)
least_from (x ∷ xs) m l =
    let low : fold min x xs ≤ m = fold_min-le xs x m l.one in
    let high : m ≤ fold min x xs = l.most (fold min x xs) (fold_min-has xs x) in
    let same : fold min x xs ≡ m = omega arith in
    ap Some same

-- numbers with the same members have the same least
pub least_same : (xs ys : List ℕ) (m : ℕ) → ((n : ℕ) → has xs n ≡ has ys n) → least xs ≡ Some m → least ys ≡ Some m
least_same xs ys m same e =
    let l : IsLeast xs m = least_is xs m e in
    least_from ys m (record { one = sym (same m) ∙ l.one; most = λ n h. l.most n (same n ∙ h) })
