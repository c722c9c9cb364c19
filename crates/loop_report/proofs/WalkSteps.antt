-- A walk, step by step.
use Rattle.std.proofs.Common.{◌≡◌, ℕ, zero, suc, ◌+◌, ◌-◌, ◌<◌, ◌≤◌, Bool, true, false, length, get_or, refl, ap, sym, subst, ◌∙◌, arith, nat_eq, inl, inr, ◌⊎◌}
use Rattle.std.specs.Fn.{iterate}
use Rattle.std.specs.List.{All, IsDistinct}
use Rattle.std.proofs.lemmas.Bool.{ne_eqb, both_ways, cases_lt}
use Rattle.std.proofs.lemmas.List.{get_or_default}
use Rattle.std.proofs.lemmas.List.Elements.{All-from_get_or}
use Rattle.std.proofs.lemmas.Map.Keys.{IsDistinct-from_apart}
use Rattle.dep_graph.specs.Graphs.{has}
use Rattle.dep_graph.proofs.Members.{Place, place_of, has_from_place, at_most}
use Rattle.loop_report.specs.Walks.{walk}

module _ (f : ℕ → ℕ) where
  pub iterate-add : (b a n : ℕ) → iterate f (a + b) n ≡ iterate f a (iterate f b n)
  iterate-add zero a n = let e : a + zero ≡ a = omega arith in ap (λ k. iterate f k n) e
  iterate-add (suc b) a n = let e : a + suc b ≡ suc (a + b) = omega arith in ap (λ k. iterate f k n) e ∙ iterate-add b a (f n)

  -- so many steps are some of them and then the others
  pub iterate-parts : (k a b n : ℕ) → a + b ≡ k → iterate f k n ≡ iterate f a (iterate f b n)
  iterate-parts k a b n e = ap (λ m. iterate f m n) (sym e) ∙ iterate-add b a n

  pub length-walk : (k n : ℕ) → length (walk f k n) ≡ k
  length-walk zero n = refl
  length-walk (suc k) n = ap suc (length-walk k (f n))

  pub walk_at : (k i n : ℕ) → i < k → get_or (walk f k n) i 0 ≡ iterate f i n
  walk_at zero i n l = absurd (omega arith)
  walk_at (suc k) zero n l = refl
  walk_at (suc k) (suc i) n l = walk_at k i (f n) (omega arith)

  pub walk_has : (k i n : ℕ) → i < k → has (walk f k n) (iterate f i n) ≡ true
  walk_has k i n l = has_from_place (walk f k n) (iterate f i n) i (let e : length (walk f k n) ≡ k = length-walk k n in omega arith) (walk_at k i n l)

  -- so many steps lead to a number
  pub record Steps (n to most : ℕ) : Type 0 where
    pub count : ℕ
    pub few : count < most
    pub lead : iterate f count n ≡ to

  pub steps_to : (k n to : ℕ) → has (walk f k n) to ≡ true → Steps n to k
  steps_to k n to h =
      let place : Place (walk f k n) to = place_of (walk f k n) to h in
      let l : place.at < k = (let w : place.at < length (walk f k n) = place.within in let e : length (walk f k n) ≡ k = length-walk k n in omega arith) in
      record { count = place.at; few = l; lead = sym (walk_at k place.at n l) ∙ place.is }

  module _ (count : ℕ) (inside : (n : ℕ) → n < count → f n < count) where
    pub iterate-inside : (i n : ℕ) → n < count → iterate f i n < count
    iterate-inside zero n l = l
    iterate-inside (suc i) n l = iterate-inside i (f n) (inside n l)

    pub walk-inside : (k n : ℕ) → n < count → All (λ m. m < count) (walk f k n)
    walk-inside k n l =
        All-from_get_or (λ m. m < count) (walk f k n) 0 (λ i b.
        subst (λ m. m < count) (sym (walk_at k i n (let e : length (walk f k n) ≡ k = length-walk k n in omega arith))) (iterate-inside i n l))

    -- a walk of one number more than there are has one of them twice
    apart : (n : ℕ) → has (walk f count n) (iterate f count n) ≡ false → (i j : ℕ) → i < j → j ≤ count → iterate f i n ≡ iterate f j n → ⊥
    apart n new i j l m e =
        let less : count - j + i < count = omega arith in
        let parts : count - j + j ≡ count = omega arith in
        let same : iterate f count n ≡ iterate f (count - j + i) n =
        iterate-parts count (count - j) j n parts ∙ ap (iterate f (count - j)) (sym e) ∙ sym (iterate-add i (count - j) n) in
        both_ways (has (walk f count n) (iterate f count n)) new (ap (has (walk f count n)) same ∙ walk_has count (count - j + i) n less)

    distinct_walk : (n : ℕ) → has (walk f count n) (iterate f count n) ≡ false → IsDistinct nat_eq (walk f (suc count) n)
    distinct_walk n new =
        IsDistinct-from_apart nat_eq (walk f (suc count) n)
        (λ i j d b l.
        let size : length (walk f (suc count) n) ≡ suc count = length-walk (suc count) n in
        ne_eqb (get_or (walk f (suc count) n) i d) (get_or (walk f (suc count) n) j d)
        (λ e. apart n new i j b (omega arith) (sym (walk_at (suc count) i n (omega arith)) ∙ get_or_default (walk f (suc count) n) i 0 d (omega arith) ∙ e ∙ sym (get_or_default (walk f (suc count) n) j 0 d (omega arith)) ∙ walk_at (suc count) j n (omega arith))))

    repeats_case : (n : ℕ) → n < count → (b : Bool) → has (walk f count n) (iterate f count n) ≡ b → has (walk f count n) (iterate f count n) ≡ true
    repeats_case n l true e = e
    repeats_case n l false e =
        absurd (let few : length (walk f (suc count) n) ≤ count = at_most (walk f (suc count) n) count (distinct_walk n e) (walk-inside (suc count) n l) in
        let size : length (walk f (suc count) n) ≡ suc count = length-walk (suc count) n in omega arith)

    pub repeats : (n : ℕ) → n < count → has (walk f count n) (iterate f count n) ≡ true
    repeats n l = repeats_case n l (has (walk f count n) (iterate f count n)) refl

    -- all that the walk comes to is among its first numbers
    on_case : (n i : ℕ) → n < count → i < count → (suc i < count) ⊎ (count ≤ suc i) → has (walk f count n) (iterate f (suc i) n) ≡ true
    on_case n i l b (inl less) = walk_has count (suc i) n less
    on_case n i l b (inr last) = let e : count ≡ suc i = omega arith in subst (λ k. has (walk f count n) (iterate f k n) ≡ true) e (repeats n l)

    walk_on : (n m : ℕ) → n < count → has (walk f count n) m ≡ true → has (walk f count n) (f m) ≡ true
    walk_on n m l h =
        let s : Steps n m count = steps_to count n m h in
        subst (λ x. has (walk f count n) x ≡ true) (iterate-parts (suc s.count) 1 s.count n (omega arith) ∙ ap f s.lead) (on_case n s.count l s.few (cases_lt (suc s.count) count))

    pub walk_all : (k n : ℕ) → n < count → has (walk f count n) (iterate f k n) ≡ true
    walk_all zero n l = walk_has count zero n (omega arith)
    walk_all (suc k) n l = subst (λ x. has (walk f count n) x ≡ true) (sym (iterate-parts (suc k) 1 k n (omega arith))) (walk_on n (iterate f k n) l (walk_all k n l))
