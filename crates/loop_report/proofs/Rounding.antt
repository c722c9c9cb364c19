-- What is once round a walk: each number once, and the walk is back behind the last.
use Rattle.std.proofs.Common.{◌≡◌, ℕ, zero, suc, ◌+◌, ◌-◌, ◌<◌, ◌≤◌, Bool, true, false, List, [], ◌∷◌, length, get_or, refl, ap, sym, ◌∙◌, arith, cond, nat_eq, inl, inr, ◌⊎◌}
use Rattle.std.specs.Prelude.{◌==◌}
use Rattle.std.specs.Fn.{iterate}
use Rattle.std.specs.List.{IsDistinct}
use Rattle.std.proofs.lemmas.Bool.{eq-eqb, eqb-true, ne_eqb, both_ways, cases_lt}
use Rattle.std.proofs.lemmas.List.{get_or_default, get_or_past}
use Rattle.std.proofs.lemmas.Map.Keys.{IsDistinct-from_apart}
use Rattle.dep_graph.specs.Graphs.{has}
use Rattle.loop_report.specs.Walks.{walk, before, comes_back, round}
use Rattle.loop_report.proofs.Least.{member}
use Rattle.loop_report.proofs.WalkSteps.{iterate-parts, iterate-add, walk_at, length-walk}

-- the front of a list before a number, place by place
record Front (y : ℕ) (xs front : List ℕ) : Type 0 where
  short : length front ≤ length xs
  same : (i : ℕ) → i < length front → get_or front i 0 ≡ get_or xs i 0
  other : (i : ℕ) → i < length front → get_or front i 0 ≡ y → ⊥
  ends : has xs y ≡ true → (length front < length xs) × (get_or xs (length front) 0 ≡ y)

longer_at : (x y i : ℕ) (front more : List ℕ) → ((k : ℕ) → k < length front → get_or front k 0 ≡ get_or more k 0) → i < suc (length front) → get_or (x ∷ front) i 0 ≡ get_or (x ∷ more) i 0
longer_at x y zero front more same l = refl
longer_at x y (suc i) front more same l = same i (omega arith)

longer_other : (x y i : ℕ) (front : List ℕ) → (x == y) ≡ false → ((k : ℕ) → k < length front → get_or front k 0 ≡ y → ⊥) → i < suc (length front) → get_or (x ∷ front) i 0 ≡ y → ⊥
longer_other x y zero front apart other l e = both_ways (x == y) apart (eq-eqb x y e)
longer_other x y (suc i) front apart other l e = other i (omega arith) e

longer_ends : (x y : ℕ) (front more : List ℕ) → (x == y) ≡ false → (has more y ≡ true → (length front < length more) × (get_or more (length front) 0 ≡ y)) → (y ≡ x) ⊎ (has more y ≡ true)
    → (suc (length front) < suc (length more)) × (get_or more (length front) 0 ≡ y)
longer_ends x y front more apart ends (inl e) = absurd (both_ways (x == y) apart (eq-eqb x y (sym e)))
longer_ends x y front more apart ends (inr h) = let both : (length front < length more) × (get_or more (length front) 0 ≡ y) = ends h in (omega arith, both.1)

front_case : (y x : ℕ) (more : List ℕ) → Front y more (before y more) → (b : Bool) → (x == y) ≡ b → Front y (x ∷ more) (let l : List ℕ = cond b [] (x ∷ before y more) in l)
front_case y x more f true e = record {
  short = omega arith;
  same = λ i l. absurd (omega arith);
  other = λ i l. absurd (omega arith);
  ends = λ h. (omega arith, eqb-true x y e);
}
front_case y x more f false e = record {
  short = (let s : length (before y more) ≤ length more = f.short in omega arith);
  same = λ i l. longer_at x y i (before y more) more f.same l;
  other = λ i l. longer_other x y i (before y more) e f.other l;
  ends = λ h. longer_ends x y (before y more) more e f.ends (member y x more h);
}

front : (y : ℕ) (xs : List ℕ) → Front y xs (before y xs)
front y [] = record { short = omega arith; same = λ i l. absurd (omega arith); other = λ i l. absurd (omega arith); ends = λ h. absurd (both_ways false refl h) }
front y (x ∷ more) = front_case y x more (front y more) (x == y) refl

module _ (f : ℕ → ℕ) (count m : ℕ) where
  place_of_rest : (i : ℕ) → i < length (before m (walk f count (f m))) → get_or (before m (walk f count (f m))) i 0 ≡ iterate f (suc i) m
  place_of_rest i l =
      let fr : Front m (walk f count (f m)) (before m (walk f count (f m))) = front m (walk f count (f m)) in
      let s : length (before m (walk f count (f m))) ≤ length (walk f count (f m)) = fr.short in
      let size : length (walk f count (f m)) ≡ count = length-walk f count (f m) in
      fr.same i l ∙ walk_at f count i (f m) (omega arith)

  pub round_at : (i : ℕ) → i < length (round f count m) → get_or (round f count m) i 0 ≡ iterate f i m
  round_at zero l = refl
  round_at (suc i) l = place_of_rest i (omega arith)

  not_back : (i : ℕ) → 0 < i → i < length (round f count m) → iterate f i m ≡ m → ⊥
  not_back zero l b e = absurd (omega arith)
  not_back (suc i) l b e = (front m (walk f count (f m))).other i (omega arith) (place_of_rest i (omega arith) ∙ e)

  module _ (returns : comes_back f count m ≡ true) where
    -- behind the last number the walk is back
    pub back_at_end : iterate f (length (round f count m)) m ≡ m
    back_at_end =
        let both : (length (before m (walk f count (f m))) < length (walk f count (f m))) × (get_or (walk f count (f m)) (length (before m (walk f count (f m)))) 0 ≡ m) =
        (front m (walk f count (f m))).ends returns in
        let size : length (walk f count (f m)) ≡ count = length-walk f count (f m) in
        sym (walk_at f count (length (before m (walk f count (f m)))) (f m) (omega arith)) ∙ both.1

    twice : (i j : ℕ) → i < j → j < length (round f count m) → iterate f i m ≡ iterate f j m → ⊥
    twice i j l b e =
        let size : ℕ = length (round f count m) in
        not_back (length (round f count m) - j + i) (omega arith) (omega arith)
        (iterate-add f i (length (round f count m) - j) m ∙ ap (iterate f (length (round f count m) - j)) e
        ∙ sym (iterate-parts f (length (round f count m)) (length (round f count m) - j) j m (omega arith)) ∙ back_at_end)

    pub each_once : IsDistinct nat_eq (round f count m)
    each_once =
        IsDistinct-from_apart nat_eq (round f count m)
        (λ i j d b l. ne_eqb (get_or (round f count m) i d) (get_or (round f count m) j d)
        (λ e. twice i j b l
        (sym (round_at i (omega arith)) ∙ get_or_default (round f count m) i 0 d (omega arith) ∙ e ∙ sym (get_or_default (round f count m) j 0 d l) ∙ round_at j l)))

    -- behind a number comes the next one, and behind the last the first
    behind_case : (place : ℕ) → place < length (round f count m) → (place + 1 < length (round f count m)) ⊎ (length (round f count m) ≤ place + 1)
        → get_or (round f count m) (place + 1) m ≡ f (get_or (round f count m) place 0)
    behind_case place l (inl before_end) =
        get_or_default (round f count m) (place + 1) m 0 before_end ∙ round_at (place + 1) before_end
        ∙ iterate-parts f (place + 1) 1 place m (omega arith) ∙ ap f (sym (round_at place l))
    behind_case place l (inr end) =
        get_or_past (round f count m) (place + 1) m end ∙ sym back_at_end
        ∙ iterate-parts f (length (round f count m)) 1 place m (omega arith) ∙ ap f (sym (round_at place l))

    pub behind : (place : ℕ) → place < length (round f count m) → get_or (round f count m) (place + 1) m ≡ f (get_or (round f count m) place 0)
    behind place l = behind_case place l (cases_lt (place + 1) (length (round f count m)))
