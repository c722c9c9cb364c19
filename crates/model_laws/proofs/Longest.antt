-- Nine edges of chains tell the smaller of 9 and the longest chain of dependents.
use Rattle.std.proofs.Common.{◌≡◌, ◌≢◌, ℕ, zero, suc, ◌<◌, ◌≤◌, max, min, Bool, true, false, List, [], ◌∷◌, length, take, refl, ap, sym, ◌∙◌, arith, cond, inl, inr, ◌⊎◌}
use Rattle.std.specs.Prelude.{map}
use Rattle.std.proofs.lemmas.Bool.{true≢false, and_parts, and_from, cases_eq, cases_lt}
use Rattle.std.proofs.lemmas.List.{get_or_past, length-take-le}
use Rattle.bulk_model.specs.declared.plan.Edge.{Edge}
use Rattle.bulk_model.specs.Installs.{has}
use Rattle.bulk_model.specs.Order.{highest, chain_above, is_chain_above, IsLongest}
use Rattle.bulk_model.specs.PlanFacts.{IsPlan}
use Rattle.bulk_model.specs.PlanView.{PlanView, count, depends}

highest_case : (f : ℕ → ℕ) (n m : ℕ) → (m < n → f m ≤ highest f n) → m < suc n
    → (m ≡ n) ⊎ (m ≡ n → ⊥) → f m ≤ max (highest f n) (f n)
highest_case f n m before l (inl same) = let e : f m ≡ f n = ap f same in omega arith
highest_case f n m before l (inr apart) = let ne : m ≢ n = apart in let h : f m ≤ highest f n = before (omega arith) in omega arith

highest_at : (f : ℕ → ℕ) (n m : ℕ) → m < n → f m ≤ highest f n
highest_at f zero m l = absurd (omega arith)
highest_at f (suc n) m l = highest_case f n m (λ b. highest_at f n m b) l (cases_eq m n)

-- a number at which the highest is reached
pub record Reached (f : ℕ → ℕ) (n : ℕ) : Type 0 where
  pub at : ℕ
  pub is : (highest f n ≡ 0) ⊎ (f at ≡ highest f n)

reached_case : (f : ℕ → ℕ) (n : ℕ) → Reached f n → (highest f n < f n) ⊎ (f n ≤ highest f n)
    → Reached f (suc n)
reached_case f n before (inl more) = record { at = n; is = inr (omega arith) }
reached_case f n before (inr less) = record { at = before.at; is = still before.is }
  where
    still : (highest f n ≡ 0) ⊎ (f before.at ≡ highest f n)
        → (max (highest f n) (f n) ≡ 0) ⊎ (f before.at ≡ max (highest f n) (f n))
    still (inl none) = inl (omega arith)
    still (inr there) = inr (omega arith)

reached : (f : ℕ → ℕ) (n : ℕ) → Reached f n
reached f zero = record { at = 0; is = inl refl }
reached f (suc n) = reached_case f n (reached f n) (cases_lt (highest f n) (f n))

module _ (plan : PlanView) (is_plan : IsPlan plan) where
  pub record Chain (n edges : ℕ) : Type 0 where
    pub above : List ℕ
    pub is : is_chain_above plan n above ≡ true
    pub long : length above ≡ edges

  abbrev step : ℕ → ℕ → ℕ → ℕ
  step edges n m = cond (has (depends plan m) n) (suc (chain_above plan edges m)) 0

  none_chain : (n edges : ℕ) → edges ≡ 0 → Chain n edges
  none_chain n edges e = record { above = []; is = refl; long = sym e }

  there_case : (edges n m total : ℕ) → Chain m (chain_above plan edges m) → (b : Bool)
      → has (depends plan m) n ≡ b → cond b (suc (chain_above plan edges m)) 0 ≡ total
      → Chain n total
  there_case edges n m total c true h e = record {
    above = m ∷ c.above;
    is = and_from (has (depends plan m) n) (is_chain_above plan m c.above) h c.is;
    long = (let l : length c.above ≡ chain_above plan edges m = c.long in let s : suc (length c.above) ≡ total = omega arith in s);
  }
  there_case edges n m total c false h e = none_chain n total (sym e)

  chain_case : (edges n : ℕ) (r : Reached (step edges n) (count plan))
      → Chain r.at (chain_above plan edges r.at)
      → (highest (step edges n) (count plan) ≡ 0) ⊎ (step edges n r.at ≡ highest (step edges n) (count plan))
      → Chain n (highest (step edges n) (count plan))
  chain_case edges n r c (inl none) = none_chain n (highest (step edges n) (count plan)) none
  chain_case edges n r c (inr e) = there_case edges n r.at (highest (step edges n) (count plan)) c (has (depends plan r.at) n) refl e

  chain_of : (edges n : ℕ) → Chain n (chain_above plan edges n)
  chain_of zero n = none_chain n 0 refl
  chain_of (suc edges) n =
      let r : Reached (step edges n) (count plan) = reached (step edges n) (count plan) in
      chain_case edges n r (chain_of edges r.at) r.is

  below_case : (n m : ℕ) → has (depends plan m) n ≡ true → (m < count plan) ⊎ (count plan ≤ m)
      → m < count plan
  below_case n m h (inl l) = l
  below_case n m h (inr past) =
      let size : length plan.edges ≡ count plan = is_plan.edges in
      let none = get_or_past plan.edges m [] (omega arith) in
      absurd (true≢false (sym h ∙ ap (λ edges. has (map (λ (e : Edge). e.to) edges) n) none))

  -- no chain of so many edges is longer
  longest : (edges n : ℕ) (above : List ℕ) → is_chain_above plan n above ≡ true
      → length above ≤ edges → length above ≤ chain_above plan edges n
  longest edges n [] h l = omega arith
  longest zero n (m ∷ more) h l = absurd (let z : suc (length more) ≤ 0 = l in omega arith)
  longest (suc edges) n (m ∷ more) h l =
      let both = and_parts (has (depends plan m) n) (is_chain_above plan m more) h in
      let rest = longest edges m more both.1 (let z : suc (length more) ≤ suc edges = l in omega arith) in
      let at = highest_at (step edges n) (count plan) m (below_case n m both.0 (cases_lt m (count plan))) in
      let is = ap (λ b. cond b (suc (chain_above plan edges m)) 0) both.0 in
      (let z : suc (length more) ≤ highest (step edges n) (count plan) = omega arith in z)

  few : (edges n : ℕ) → ((m : ℕ) → chain_above plan edges m ≤ edges)
      → (r : Reached (step edges n) (count plan)) → (b : Bool) → has (depends plan r.at) n ≡ b
      → (highest (step edges n) (count plan) ≡ 0)
      ⊎ (cond b (suc (chain_above plan edges r.at)) 0 ≡ highest (step edges n) (count plan))
      → highest (step edges n) (count plan) ≤ suc edges
  few edges n below r b h (inl none) = omega arith
  few edges n below r true h (inr e) =
      let l : chain_above plan edges r.at ≤ edges = below r.at in
      let z : suc (chain_above plan edges r.at) ≡ highest (step edges n) (count plan) = e in
      omega arith
  few edges n below r false h (inr e) = let z : 0 ≡ highest (step edges n) (count plan) = e in omega arith

  at_most : (edges n : ℕ) → chain_above plan edges n ≤ edges
  at_most zero n = omega arith
  at_most (suc edges) n =
      let r : Reached (step edges n) (count plan) = reached (step edges n) (count plan) in
      few edges n (at_most edges) r (has (depends plan r.at) n) refl r.is

  first_part : (k n : ℕ) (above : List ℕ) → is_chain_above plan n above ≡ true
      → is_chain_above plan n (take k above) ≡ true
  first_part zero n above h = refl
  first_part (suc k) n [] h = refl
  first_part (suc k) n (m ∷ more) h =
      let both = and_parts (has (depends plan m) n) (is_chain_above plan m more) h in
      and_from (has (depends plan m) n) (is_chain_above plan m (take k more)) both.0 (first_part k m more both.1)

  pub nine_edges_are_enough : (n edges : ℕ) → IsLongest plan n edges
      → chain_above plan 9 n ≡ min 9 edges
  nine_edges_are_enough n edges l =
      let c : Chain n (chain_above plan 9 n) = chain_of 9 n in
      let most : length c.above ≤ edges = l.most c.above c.is in
      let long : length c.above ≡ chain_above plan 9 n = c.long in
      let nine : chain_above plan 9 n ≤ 9 = at_most 9 n in
      let found : length l.found.0 ≡ edges = l.found.2 in
      let size = length-take-le (min 9 edges) l.found.0 (omega arith) in
      let least = longest 9 n (take (min 9 edges) l.found.0) (first_part (min 9 edges) n l.found.0 l.found.1) (omega arith) in
      omega arith
