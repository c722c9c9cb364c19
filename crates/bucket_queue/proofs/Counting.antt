-- Counts over lists of nodes, as marks change.
use Rattle.std.proofs.Common.{◌≡◌, ℕ, ◌+◌, ◌-◌, ◌<◌, Bool, true, false, List, [], ◌∷◌, length, set, refl, ap, sym, ◌∙◌, arith, cond, inl, inr, ◌⊎◌}
use Rattle.std.specs.Prelude.{◌==◌, ◌&&◌, ◌||◌, not}
use Rattle.std.specs.List.{count_by, list_all, list_any}
use Rattle.std.proofs.lemmas.Bool.{eq-eqb, ne_eqb, cases_eq}
use Rattle.std.proofs.lemmas.List.{get_or-set_same, get_or-set_other}
use Rattle.std.proofs.lemmas.List.Sums.{sum_by-cons, sum_by-set}
use Rattle.bucket_queue.specs.declared.mark.Mark.{Mark}
use Rattle.bucket_queue.specs.declared.mark.Mark.TheVariants.{Kept, Ignored, Free, Taken, Done, Bad}
use Rattle.bucket_queue.specs.QueueView.{is_free, is_taken, has_package, mark_at}
use Rattle.bucket_queue.specs.Inner.{count_missing}
use Rattle.dep_graph.specs.Graphs.{times}

abbrev pub one_if : Bool → ℕ
one_if b = cond b 1 0

pub count_by-cons : {X : Type 0} (p : X → Bool) (x : X) (xs : List X) → count_by p (x ∷ xs) ≡ one_if (p x) + count_by p xs
count_by-cons p x xs = sum_by-cons (λ y. cond (p y) 1 0) x xs

pub count_by-agree : {X : Type 0} (p q : X → Bool) → ((x : X) → p x ≡ q x) → (xs : List X) → count_by p xs ≡ count_by q xs
count_by-agree p q e [] = refl
count_by-agree p q e (x ∷ xs) =
    count_by-cons p x xs ∙ ap (λ b. one_if b + count_by p xs) (e x) ∙ ap (λ n. one_if (q x) + n) (count_by-agree p q e xs) ∙ sym (count_by-cons q x xs)

none_case : (b rest : Bool) (n : ℕ) → rest ≡ (n == 0) → (b && rest) ≡ (one_if (not b) + n == 0)
none_case true rest n e = e ∙ ap (λ k. k == 0) (let z : n ≡ 0 + n = omega arith in z)
none_case false rest n e = sym (ne_eqb (1 + n) 0 (λ z. omega arith))

-- none fails where all pass
pub all_from_none : {X : Type 0} (p : X → Bool) (xs : List X) → list_all p xs ≡ (count_by (λ x. not (p x)) xs == 0)
all_from_none p [] = refl
all_from_none p (x ∷ xs) = none_case (p x) (list_all p xs) (count_by (λ y. not (p y)) xs) (all_from_none p xs) ∙ ap (λ k. k == 0) (sym (count_by-cons (λ y. not (p y)) x xs))

pub free_has_none : (mark : Mark) → is_free mark ≡ true → has_package mark ≡ false
free_has_none Kept e = cc
free_has_none Ignored e = cc
free_has_none Free e = refl
free_has_none Taken e = cc
free_has_none Done e = cc
free_has_none Bad e = cc

pub taken_is : (mark : Mark) → is_taken mark ≡ true → mark ≡ Taken
taken_is Kept e = cc
taken_is Ignored e = cc
taken_is Free e = cc
taken_is Taken e = refl
taken_is Done e = cc
taken_is Bad e = cc

module _ (marks : List Mark) (n : ℕ) (mark : Mark) (within : n < length marks) where
  pub mark_here : mark_at (set marks n mark) n ≡ mark
  mark_here = get_or-set_same marks n mark Ignored within

  pub mark_there : (m : ℕ) → (m ≡ n → ⊥) → mark_at (set marks n mark) m ≡ mark_at marks m
  mark_there m apart = get_or-set_other marks n m mark Ignored apart

  same_case : (d : ℕ) → has_package (mark_at marks n) ≡ has_package mark → (d ≡ n) ⊎ (d ≡ n → ⊥) → has_package (mark_at (set marks n mark) d) ≡ has_package (mark_at marks d)
  same_case d e (inl same) = ap (λ x. has_package (mark_at (set marks n mark) x)) same ∙ ap has_package mark_here ∙ sym e ∙ ap (λ x. has_package (mark_at marks x)) (sym same)
  same_case d e (inr apart) = ap has_package (mark_there d apart)

  -- a mark that tells the same of a package changes no count
  pub missing_same : has_package (mark_at marks n) ≡ has_package mark → (numbers : List ℕ) → count_missing (set marks n mark) numbers ≡ count_missing marks numbers
  missing_same e numbers =
      count_by-agree (λ d. not (has_package (mark_at (set marks n mark) d))) (λ d. not (has_package (mark_at marks d))) (λ d. ap not (same_case d e (cases_eq d n))) numbers

  less_case : (y : ℕ) (rest now more : ℕ) → has_package (mark_at marks n) ≡ false → has_package mark ≡ true → rest ≡ now + more → (y ≡ n) ⊎ (y ≡ n → ⊥)
      → one_if (not (has_package (mark_at marks y))) + rest ≡ one_if (not (has_package (mark_at (set marks n mark) y))) + now + (one_if (n == y) + more)
  less_case y rest now more e f s (inl same) =
      let a : has_package (mark_at marks y) ≡ false = ap (λ x. has_package (mark_at marks x)) same ∙ e in
      let b : has_package (mark_at (set marks n mark) y) ≡ true = ap (λ x. has_package (mark_at (set marks n mark) x)) same ∙ ap has_package mark_here ∙ f in
      ap (λ c. one_if (not c) + rest) a ∙ (let z : 1 + rest ≡ 0 + now + (1 + more) = omega arith in z)
      ∙ sym (ap (λ c. one_if (not c) + now + (one_if (n == y) + more)) b ∙ ap (λ c. 0 + now + (one_if c + more)) (eq-eqb n y (sym same)))
  less_case y rest now more e f s (inr apart) =
      let b : has_package (mark_at (set marks n mark) y) ≡ has_package (mark_at marks y) = ap has_package (mark_there y apart) in
      (let z : one_if (not (has_package (mark_at marks y))) + rest ≡ one_if (not (has_package (mark_at marks y))) + now + (0 + more) = omega arith in z)
      ∙ sym (ap (λ c. one_if (not c) + now + (one_if (n == y) + more)) b ∙ ap (λ c. one_if (not (has_package (mark_at marks y))) + now + (one_if c + more)) (ne_eqb n y (λ z. apart (sym z))))

  -- a node that gets a package counts as often as it stands there
  pub missing_less : has_package (mark_at marks n) ≡ false → has_package mark ≡ true → (numbers : List ℕ)
      → count_missing marks numbers ≡ count_missing (set marks n mark) numbers + times numbers n
  missing_less e f [] = refl
  missing_less e f (y ∷ numbers) =
      count_by-cons (λ d. not (has_package (mark_at marks d))) y numbers
      ∙ less_case y (count_missing marks numbers) (count_missing (set marks n mark) numbers) (times numbers n) e f (missing_less e f numbers) (cases_eq y n)
      ∙ ap (λ t. t + (one_if (n == y) + times numbers n)) (sym (count_by-cons (λ d. not (has_package (mark_at (set marks n mark) d))) y numbers))
      ∙ ap (λ t. count_missing (set marks n mark) (y ∷ numbers) + t) (sym (count_by-cons (λ x. n == x) y numbers))

pub none_counted : {X : Type 0} (p : X → Bool) (xs : List X) → not (list_any p xs) ≡ (count_by p xs == 0)
none_counted p [] = refl
none_counted p (x ∷ xs) = counted_case (p x) (list_any p xs) (count_by p xs) (none_counted p xs) ∙ ap (λ k. k == 0) (sym (count_by-cons p x xs))
  where
    counted_case : (b rest : Bool) (n : ℕ) → not rest ≡ (n == 0) → not (b || rest) ≡ (one_if b + n == 0)
    counted_case true rest n e = sym (ne_eqb (1 + n) 0 (λ z. omega arith))
    counted_case false rest n e = e ∙ ap (λ k. k == 0) (let z : n ≡ 0 + n = omega arith in z)

-- how many are taken, as one mark changes
pub running_more : (marks : List Mark) (n running : ℕ) → n < length marks → is_free (mark_at marks n) ≡ true → running ≡ count_by is_taken marks → running + 1 ≡ count_by is_taken (set marks n Taken)
running_more marks n running l f e =
    let sums : count_by is_taken (set marks n Taken) + one_if (is_taken (mark_at marks n)) ≡ count_by is_taken marks + 1 = sum_by-set (λ m. cond (is_taken m) 1 0) marks n Taken Ignored l in
    let none : one_if (is_taken (mark_at marks n)) ≡ 0 = ap one_if (free_not_taken (mark_at marks n) f) in
    omega arith
  where
    free_not_taken : (mark : Mark) → is_free mark ≡ true → is_taken mark ≡ false
    free_not_taken Kept e = refl
    free_not_taken Ignored e = refl
    free_not_taken Free e = refl
    free_not_taken Taken e = cc
    free_not_taken Done e = refl
    free_not_taken Bad e = refl

pub running_less : (marks : List Mark) (n running : ℕ) (mark : Mark) → n < length marks → is_taken (mark_at marks n) ≡ true → is_taken mark ≡ false → running ≡ count_by is_taken marks → running - 1 ≡ count_by is_taken (set marks n mark)
running_less marks n running mark l t f e =
    let sums : count_by is_taken (set marks n mark) + one_if (is_taken (mark_at marks n)) ≡ count_by is_taken marks + one_if (is_taken mark) = sum_by-set (λ m. cond (is_taken m) 1 0) marks n mark Ignored l in
    let one : one_if (is_taken (mark_at marks n)) ≡ 1 = ap one_if t in
    let none : one_if (is_taken mark) ≡ 0 = ap one_if f in
    omega arith
