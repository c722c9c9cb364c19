-- The repeated part of a walk, and the walk once round it.
use Rattle.std.proofs.Common.{◌≡◌, ℕ, zero, suc, ◌+◌, ◌-◌, ◌<◌, ◌≤◌, Bool, true, false, List, [], ◌∷◌, refl, ap, sym, subst, ◌∙◌, arith, cond, Some, inl, inr, ◌⊎◌}
use Rattle.std.specs.Prelude.{◌==◌}
use Rattle.std.specs.Fn.{iterate}
use Rattle.std.proofs.lemmas.Bool.{eq-eqb, eqb-true, both_ways, and_parts, and_from}
use Rattle.dep_graph.specs.Graphs.{has}
use Rattle.dep_graph.proofs.Members.{has-filter, same_bool}
use Rattle.bulk_base.specs.Least.{least}
use Rattle.loop_report.specs.Walks.{walk, before, comes_back, repeated, round, round_from, loop_from}
use Rattle.loop_report.proofs.WalkSteps.{iterate-parts, iterate-add, walk_has, Steps, steps_to, iterate-inside, repeats, walk_all}
use Rattle.loop_report.proofs.Least.{has_head, has_tail, member, IsLeast, least_is, least_same}

-- the front of a list before a number
front_member : (n x : ℕ) (front more : List ℕ) → (has front n ≡ true → has more n ≡ true) → (n ≡ x) ⊎ (has front n ≡ true) → has (x ∷ more) n ≡ true
front_member n x front more rest (inl e) = subst (λ k. has (k ∷ more) n ≡ true) e (has_head n more)
front_member n x front more rest (inr h) = has_tail x n more (rest h)

front_case : (y x n : ℕ) (more : List ℕ) → (has (before y more) n ≡ true → has more n ≡ true) → (b : Bool)
    → has (let l : List ℕ = cond b [] (x ∷ before y more) in l) n ≡ true → has (x ∷ more) n ≡ true
front_case y x n more rest true h = absurd (both_ways false refl h)
front_case y x n more rest false h = front_member n x (before y more) more rest (member n x (before y more) h)

pub before-has : (y n : ℕ) (numbers : List ℕ) → has (before y numbers) n ≡ true → has numbers n ≡ true
before-has y n [] h = h
before-has y n (x ∷ more) h = front_case y x n more (before-has y n more) (x == y) h

module _ (f : ℕ → ℕ) (count : ℕ) where
  -- a number to which so many steps lead back
  pub back : (p n : ℕ) → 0 < p → p ≤ count → iterate f p n ≡ n → comes_back f count n ≡ true
  back zero n l m e = absurd (omega arith)
  back (suc q) n l m e = subst (λ x. has (walk f count (f n)) x ≡ true) e (walk_has f count q (f n) (omega arith))

  pub returning : (n : ℕ) → comes_back f count n ≡ true → Steps f (f n) n count
  returning n h = steps_to f count (f n) n h

  -- from a number that is come back to, steps past any bound lead back
  pub record Late (n bound : ℕ) : Type 0 where
    pub steps : ℕ
    pub late : bound ≤ steps
    pub lead : iterate f steps n ≡ n

  pub late : (q n bound : ℕ) → iterate f (suc q) n ≡ n → Late n bound
  late q n zero e = record { steps = zero; late = omega arith; lead = refl }
  late q n (suc bound) e =
      let l : Late n bound = late q n bound e in
      record {
        steps = suc q + l.steps;
        late = (let b : bound ≤ l.steps = l.late in omega arith);
        lead = iterate-add f l.steps (suc q) n ∙ ap (iterate f (suc q)) l.lead ∙ e;
      }

  -- what steps lead back to themselves after some steps, do so after all
  pub around : (p j n : ℕ) → iterate f p n ≡ n → iterate f p (iterate f j n) ≡ iterate f j n
  around p j n e = sym (iterate-parts f (j + p) p j n (omega arith)) ∙ iterate-parts f (j + p) j p n (omega arith) ∙ ap (iterate f j) e

  module _ (inside : (n : ℕ) → n < count → f n < count) (first : ℕ) (below : first < count) where
    abbrev pub far : ℕ
    far = iterate f count first

    pub early : Steps f first far count
    early = steps_to f count first far (repeats f count inside first below)

    pub period_is : (0 < count - early.count) × (count - early.count ≤ count)
    period_is = let l : early.count < count = early.few in (omega arith, omega arith)

    pub far_back : iterate f (count - early.count) far ≡ far
    far_back =
        let l : early.count < count = early.few in
        ap (iterate f (count - early.count)) (sym early.lead) ∙ sym (iterate-parts f count (count - early.count) early.count first (omega arith))

    pub repeated_has : (j : ℕ) → has (repeated f count first) (iterate f j far) ≡ true
    repeated_has j =
        has-filter (comes_back f count) (walk f count first) (iterate f j far)
        ∙ and_from (comes_back f count (iterate f j far)) (has (walk f count first) (iterate f j far))
        (back (count - early.count) (iterate f j far) period_is.0 period_is.1 (around (count - early.count) j far far_back))
        (subst (λ x. has (walk f count first) x ≡ true) (iterate-add f count j first) (walk_all f count inside (j + count) first below))

    -- so many steps lead from far along to a number
    pub record Far (n : ℕ) : Type 0 where
      pub steps : ℕ
      pub lead : iterate f steps far ≡ n

    pub repeated_far : (n : ℕ) → has (repeated f count first) n ≡ true → Far n
    repeated_far n h =
        let both : (comes_back f count n ≡ true) × (has (walk f count first) n ≡ true) =
        and_parts (comes_back f count n) (has (walk f count first) n) (sym (has-filter (comes_back f count) (walk f count first) n) ∙ h) in
        let way : Steps f first n count = steps_to f count first n both.1 in
        let again : Steps f (f n) n count = returning n both.0 in
        let l : Late n count = late again.count n count again.lead in
        let few : way.count < count = way.few in
        let long : count ≤ l.steps = l.late in
        let there : far ≡ iterate f (count - way.count) n = iterate-parts f count (count - way.count) way.count first (omega arith) ∙ ap (iterate f (count - way.count)) way.lead in
        record {
          steps = l.steps - (count - way.count);
          lead = ap (iterate f (l.steps - (count - way.count))) there
              ∙ sym (iterate-parts f l.steps (l.steps - (count - way.count)) (count - way.count) n (omega arith)) ∙ l.lead;
        }

module _ (f : ℕ → ℕ) where
  -- the walk to a number begins with that number, or is not yet there
  first_case : (k x y : ℕ) (b : Bool) → (x == y) ≡ b → (x ≡ y) ⊎ (has (before y (walk f (suc k) x)) x ≡ true)
  first_case k x y true e = inl (eqb-true x y e)
  first_case k x y false e =
      inr (ap (λ b. has (let l : List ℕ = cond b [] (x ∷ before y (walk f k (f x))) in l) x) e ∙ has_head x (before y (walk f k (f x))))

  first_on : (k x y : ℕ) → has (walk f k x) y ≡ true → (x ≡ y) ⊎ (has (before y (walk f k x)) x ≡ true)
  first_on zero x y h = absurd (both_ways false refl h)
  first_on (suc k) x y h = first_case k x y (x == y) refl

  longer : (x m : ℕ) (front : List ℕ) (y : ℕ) → (m ≡ y) ⊎ (has front m ≡ true) → (m ≡ y) ⊎ (has (x ∷ front) m ≡ true)
  longer x m front y (inl e) = inl e
  longer x m front y (inr h) = inr (has_tail x m front h)

  from_first : (x y m : ℕ) (front : List ℕ) → (f x ≡ y) ⊎ (has front (f x) ≡ true) → m ≡ x → (f m ≡ y) ⊎ (has (x ∷ front) (f m) ≡ true)
  from_first x y m front c e = subst (λ n. (f n ≡ y) ⊎ (has (x ∷ front) (f n) ≡ true)) (sym e) (longer x (f x) front y c)

  among : (x y m : ℕ) (front : List ℕ) → (f x ≡ y) ⊎ (has front (f x) ≡ true) → (has front m ≡ true → (f m ≡ y) ⊎ (has front (f m) ≡ true)) → (m ≡ x) ⊎ (has front m ≡ true)
      → (f m ≡ y) ⊎ (has (x ∷ front) (f m) ≡ true)
  among x y m front first rest (inl e) = from_first x y m front first e
  among x y m front first rest (inr h) = longer x (f m) front y (rest h)

  not_first : (x y : ℕ) (xs : List ℕ) → (x == y) ≡ false → (y ≡ x) ⊎ (has xs y ≡ true) → has xs y ≡ true
  not_first x y xs e (inl same) = absurd (both_ways (x == y) e (eq-eqb x y (sym same)))
  not_first x y xs e (inr h) = h

  on_case : (k x y m : ℕ) → has (walk f (suc k) x) y ≡ true
      → (has (walk f k (f x)) y ≡ true → has (before y (walk f k (f x))) m ≡ true → (f m ≡ y) ⊎ (has (before y (walk f k (f x))) (f m) ≡ true))
      → (b : Bool) → (x == y) ≡ b → has (let l : List ℕ = cond b [] (x ∷ before y (walk f k (f x))) in l) m ≡ true
      → (f m ≡ y) ⊎ (has (let l : List ℕ = cond b [] (x ∷ before y (walk f k (f x))) in l) (f m) ≡ true)
  on_case k x y m h rest true e t = absurd (both_ways false refl t)
  on_case k x y m h rest false e t =
      let there : has (walk f k (f x)) y ≡ true = not_first x y (walk f k (f x)) e (member y x (walk f k (f x)) h) in
      among x y m (before y (walk f k (f x))) (first_on k (f x) y there) (rest there) (member m x (before y (walk f k (f x))) t)

  -- from a number before the given one the walk goes on to such a number, or to the given one
  before-on : (k x y m : ℕ) → has (walk f k x) y ≡ true → has (before y (walk f k x)) m ≡ true → (f m ≡ y) ⊎ (has (before y (walk f k x)) (f m) ≡ true)
  before-on zero x y m h t = absurd (both_ways false refl h)
  before-on (suc k) x y m h t = on_case k x y m h (before-on k (f x) y m) (x == y) refl t

  module _ (count y : ℕ) (returns : comes_back f count y ≡ true) where
    closed : (m : ℕ) (front : List ℕ) → (m ≡ y) ⊎ (has front m ≡ true) → has (y ∷ front) m ≡ true
    closed m front (inl e) = subst (λ n. has (n ∷ front) m ≡ true) e (has_head m front)
    closed m front (inr h) = has_tail y m front h

    round_case : (m : ℕ) → (m ≡ y) ⊎ (has (before y (walk f count (f y))) m ≡ true) → has (round f count y) (f m) ≡ true
    round_case m (inl e) = closed (f m) (before y (walk f count (f y))) (ahead (first_on count (f y) y returns))
      where
        ahead : (f y ≡ y) ⊎ (has (before y (walk f count (f y))) (f y) ≡ true) → (f m ≡ y) ⊎ (has (before y (walk f count (f y))) (f m) ≡ true)
        ahead c = subst (λ n. (f n ≡ y) ⊎ (has (before y (walk f count (f y))) (f n) ≡ true)) (sym e) c
    round_case m (inr h) = closed (f m) (before y (walk f count (f y))) (before-on count (f y) y m returns h)

    round-on : (m : ℕ) → has (round f count y) m ≡ true → has (round f count y) (f m) ≡ true
    round-on m h = round_case m (member m y (before y (walk f count (f y))) h)

    pub round_all : (j : ℕ) → has (round f count y) (iterate f j y) ≡ true
    round_all zero = has_head y (before y (walk f count (f y)))
    round_all (suc j) = subst (λ n. has (round f count y) n ≡ true) (sym (iterate-parts f (suc j) 1 j y (omega arith))) (round-on (iterate f j y) (round_all j))

  -- what is once round is on the walk
  pub record Leads (y n : ℕ) : Type 0 where
    pub steps : ℕ
    pub lead : iterate f steps y ≡ n

  leads_case : (count y n : ℕ) → (n ≡ y) ⊎ (has (before y (walk f count (f y))) n ≡ true) → Leads y n
  leads_case count y n (inl e) = record { steps = zero; lead = sym e }
  leads_case count y n (inr h) = let s : Steps f (f y) n count = steps_to f count (f y) n (before-has y n (walk f count (f y)) h) in record { steps = suc s.count; lead = s.lead }

  pub round_leads : (count y n : ℕ) → has (round f count y) n ≡ true → Leads y n
  round_leads count y n h = leads_case count y n (member n y (before y (walk f count (f y))) h)

  module _ (count : ℕ) (inside : (n : ℕ) → n < count → f n < count) (first : ℕ) (below : first < count) where
    pub far_returns : comes_back f count (iterate f count first) ≡ true
    far_returns =
        let p : (0 < count - (early f count inside first below).count) × (count - (early f count inside first below).count ≤ count) = period_is f count inside first below in
        back f count (count - (early f count inside first below).count) (iterate f count first) p.0 p.1 (far_back f count inside first below)

    pub far_members : (n : ℕ) → has (round f count (iterate f count first)) n ≡ true → comes_back f count n ≡ true
    far_members n h =
        let l : Leads (iterate f count first) n = round_leads count (iterate f count first) n h in
        let p : (0 < count - (early f count inside first below).count) × (count - (early f count inside first below).count ≤ count) = period_is f count inside first below in
        subst (λ m. comes_back f count m ≡ true) l.lead
        (back f count (count - (early f count inside first below).count) (iterate f l.steps (iterate f count first)) p.0 p.1
        (around f count (count - (early f count inside first below).count) l.steps (iterate f count first) (far_back f count inside first below)))

    same_members : (n : ℕ) → has (round f count (iterate f count first)) n ≡ has (repeated f count first) n
    same_members n =
        same_bool (has (round f count (iterate f count first)) n) (has (repeated f count first) n)
        (λ h. let l : Leads (iterate f count first) n = round_leads count (iterate f count first) n h in
        subst (λ m. has (repeated f count first) m ≡ true) l.lead (repeated_has f count inside first below l.steps))
        (λ h. let l : Far f count inside first below n = repeated_far f count inside first below n h in
        subst (λ m. has (round f count (iterate f count first)) m ≡ true) l.lead (round_all count (iterate f count first) far_returns l.steps))

    -- the least of once round, from far along, is the least of the repeated part
    pub least_repeated : (m : ℕ) → least (round f count (iterate f count first)) ≡ Some m → least (repeated f count first) ≡ Some m
    least_repeated m e = least_same (round f count (iterate f count first)) (repeated f count first) m same_members e

    pub turned : (m : ℕ) → least (round f count (iterate f count first)) ≡ Some m → round f count m ≡ loop_from f count (Some first)
    turned m e = sym (ap (round_from f count) (least_repeated m e))

    pub least_below : (m : ℕ) → least (round f count (iterate f count first)) ≡ Some m → m < count
    least_below m e =
        let one : IsLeast (round f count (iterate f count first)) m = least_is (round f count (iterate f count first)) m e in
        let l : Leads (iterate f count first) m = round_leads count (iterate f count first) m one.one in
        subst (λ n. n < count) l.lead (iterate-inside f count inside l.steps (iterate f count first) (iterate-inside f count inside count first below))
