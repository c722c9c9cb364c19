-- The order of one builder has each node once, behind its dependencies.
use Rattle.std.proofs.Common.{◌≡◌, ℕ, zero, suc, Bool, true, false, List, [], ◌∷◌, refl, ap, sym, ◌∙◌, cond, Option, Some, None, inl, inr, ◌⊎◌}
use Rattle.std.specs.Prelude.{◌&&◌, ◌||◌, ◌==◌, not, is_some, nat_lt, Contains}
use Rattle.std.specs.List.{list_all}
use Rattle.std.specs.Option.{option_map_or}
use Rattle.std.proofs.lemmas.Bool.{true≢false, and_parts, and_from, or_cases, eqb-true}
use Rattle.bulk_base.proofs.Members.{all_passes, passes_all, list_all_agree, contains_here, contains_more}
use Rattle.bulk_model.specs.declared.outcome.Outcome.{Outcome}
use Rattle.bulk_model.specs.declared.plan.Kept.{Kept as KeptPackages}
use Rattle.bulk_model.specs.declared.results.Status.{Status}
use Rattle.bulk_model.specs.Fit.{status_in, outcome_at, has_built, is_there, FitsPartial}
use Rattle.bulk_model.specs.Installs.{has}
use Rattle.bulk_model.specs.Order.{bucket, better, best_below, is_tried, may_follow, order_from, order}
use Rattle.bulk_model.specs.PlanView.{PlanView, count, depends}
use Rattle.bulk_model.specs.Results.{is_kept}
use Rattle.bulk_core.specs.Builder.{Outcomes, left, is_in_order}

chosen : (p : ℕ → Bool) (b : Bool) (x y : ℕ) → p x ≡ true → p y ≡ true → p (cond b x y) ≡ true
chosen p true x y h k = h
chosen p false x y h k = k

module _ (plan : PlanView) (passes : ℕ → Bool) where
  better_passes : (k n : ℕ) → ((b : ℕ) → best_below plan passes k ≡ Some b → passes b ≡ true) → passes k ≡ true → (found : Option ℕ) → best_below plan passes k ≡ found → option_map_or (λ best. better plan best k) found k ≡ n → passes n ≡ true
  better_passes k n before p None f e = ap passes (sym e) ∙ p
  better_passes k n before p (Some b) f e = ap passes (sym e) ∙ chosen passes (nat_lt (bucket plan b) (bucket plan k)) k b p (before b f)

  step_passes : (k n : ℕ) → ((b : ℕ) → best_below plan passes k ≡ Some b → passes b ≡ true) → (b : Bool) → passes k ≡ b → cond b (Some (option_map_or (λ best. better plan best k) (best_below plan passes k) k)) (best_below plan passes k) ≡ Some n → passes n ≡ true
  step_passes k n before true p e = better_passes k n before p (best_below plan passes k) refl (let z : Some (option_map_or (λ best. better plan best k) (best_below plan passes k) k) ≡ Some n = e in cc)
  step_passes k n before false p e = before n e

  -- the best of some that pass is one of them
  best_passes : (k n : ℕ) → best_below plan passes k ≡ Some n → passes n ≡ true
  best_passes zero n e = absurd (let z : ◌≡◌ {A = Option ℕ} None (Some n) = e in cc)
  best_passes (suc k) n e = step_passes k n (best_passes k) (passes k) refl e

module _ (plan : PlanView) (kept : KeptPackages) (statuses : List Status) where
  from_case : (steps : ℕ) (listed : List ℕ) → ((more : List ℕ) → is_in_order plan (is_kept kept) more (order_from plan kept statuses steps more) ≡ true) → (found : Option ℕ) → best_below plan (may_follow plan kept statuses listed) (count plan) ≡ found
      → is_in_order plan (is_kept kept) listed (option_map_or (λ n. n ∷ order_from plan kept statuses steps (n ∷ listed)) found []) ≡ true
  from_case steps listed more None f = refl
  from_case steps listed more (Some n) f =
      let may : may_follow plan kept statuses listed n ≡ true = best_passes plan (may_follow plan kept statuses listed) (count plan) n f in
      let rest : (not (has listed n) && list_all (λ d. is_kept kept d || has listed d) (depends plan n)) ≡ true =
      (and_parts (is_tried (status_in statuses n)) (not (has listed n) && list_all (λ d. is_kept kept d || has listed d) (depends plan n)) may).1 in
      and_from (list_all (λ d. is_kept kept d || has listed d) (depends plan n)) (is_in_order plan (is_kept kept) (n ∷ listed) (order_from plan kept statuses steps (n ∷ listed)))
      (and_parts (not (has listed n)) (list_all (λ d. is_kept kept d || has listed d) (depends plan n)) rest).1 (more (n ∷ listed))

  from_order : (steps : ℕ) (listed : List ℕ) → is_in_order plan (is_kept kept) listed (order_from plan kept statuses steps listed) ≡ true
  from_order zero listed = refl
  from_order (suc steps) listed = from_case steps listed (from_order steps) (best_below plan (may_follow plan kept statuses listed) (count plan)) refl

  pub order_in_order : is_in_order plan (is_kept kept) [] (order plan kept statuses) ≡ true
  order_in_order = from_order (count plan) []

pub in_order_agree : (plan : PlanView) (f g : ℕ → Bool) → ((d : ℕ) → f d ≡ g d) → (before numbers : List ℕ) → is_in_order plan f before numbers ≡ is_in_order plan g before numbers
in_order_agree plan f g same before [] = refl
in_order_agree plan f g same before (n ∷ numbers) =
    ap (λ b. b && is_in_order plan f (n ∷ before) numbers) (list_all_agree (λ d. f d || has before d) (λ d. g d || has before d) (depends plan n) (λ d c. ap (λ b. b || has before d) (same d)))
    ∙ ap (λ b. list_all (λ d. g d || has before d) (depends plan n) && b) (in_order_agree plan f g same (n ∷ before) numbers)

or_left : (a b : Bool) → a ≡ true → (a || b) ≡ true
or_left a b e = ap (λ x. x || b) e

or_right : (a b : Bool) → b ≡ true → (a || b) ≡ true
or_right true b e = refl
or_right false b e = e

-- those that given outcomes leave stand in order too
module _ (plan : PlanView) (kept : KeptPackages) (given outcomes : Outcomes) (fits : FitsPartial plan kept outcomes) (stays : (n : ℕ) (o : Outcome) → outcome_at given n ≡ Some o → outcome_at outcomes n ≡ Some o) where
  given_there : (d : ℕ) (o : Outcome) → outcome_at given d ≡ Some o → is_there kept outcomes d ≡ true → is_there kept given d ≡ true
  given_there d o g h = ap (λ x. is_kept kept d || has_built x) (g ∙ sym (stays d o g)) ∙ h

  abbrev HasLeft : List ℕ → List ℕ → Type 0
  HasLeft before after = (d : ℕ) → has before d ≡ true → outcome_at given d ≡ None → has after d ≡ true

  seen_case : (before after : List ℕ) → HasLeft before after → (d : ℕ) → has before d ≡ true → is_there kept outcomes d ≡ true → (g : Option Outcome) → outcome_at given d ≡ g → (is_there kept given d || has after d) ≡ true
  seen_case before after all d h there None g = or_right (is_there kept given d) (has after d) (all d h g)
  seen_case before after all d h there (Some o) g = or_left (is_there kept given d) (has after d) (given_there d o g there)

  depend_case : (before after : List ℕ) → HasLeft before after → (d : ℕ) → (is_kept kept d ≡ true) ⊎ (has before d ≡ true) → is_there kept outcomes d ≡ true → (is_there kept given d || has after d) ≡ true
  depend_case before after all d (inl k) there = ap (λ b. (b || has_built (outcome_at given d)) || has after d) k
  depend_case before after all d (inr h) there = seen_case before after all d h there (outcome_at given d) refl

  behind_case : (n : ℕ) (x : Option Outcome) → outcome_at outcomes n ≡ x → is_some x ≡ true → list_all (is_there kept outcomes) (depends plan n) ≡ true
  behind_case n None e h = absurd (true≢false (sym h))
  behind_case n (Some o) e h = fits.behind n o e

  abbrev Taken : List ℕ → Type 0
  Taken numbers = (n : ℕ) → Contains numbers n → is_some (outcome_at outcomes n) ≡ true

  has_more : (before after : List ℕ) (n : ℕ) → HasLeft before after → HasLeft (n ∷ before) (n ∷ after)
  has_more before after n all d h g = more (n == d) h
    where
      more : (b : Bool) → (b || has before d) ≡ true → (b || has after d) ≡ true
      more true k = refl
      more false k = all d k g

  has_given : (before after : List ℕ) (n : ℕ) (o : Outcome) → outcome_at given n ≡ Some o → HasLeft before after → HasLeft (n ∷ before) after
  has_given before after n o f all d h g = more (n == d) refl h
    where
      more : (b : Bool) → (n == d) ≡ b → (b || has before d) ≡ true → has after d ≡ true
      more true k l = let same : n ≡ d = eqb-true n d k in absurd (let z : Some o ≡ None = sym f ∙ ap (outcome_at given) same ∙ g in cc)
      more false k l = all d l g

  abbrev IsLeftInOrder : List ℕ → Type 0
  IsLeftInOrder numbers =
      (before after : List ℕ) → Taken numbers → HasLeft before after → is_in_order plan (is_kept kept) before numbers ≡ true → is_in_order plan (is_there kept given) after (left given numbers) ≡ true

  left_case : (n : ℕ) (numbers : List ℕ) → IsLeftInOrder numbers → (before after : List ℕ) → Taken (n ∷ numbers) → HasLeft before after
      → (list_all (λ d. is_kept kept d || has before d) (depends plan n) ≡ true) × (is_in_order plan (is_kept kept) (n ∷ before) numbers ≡ true) → (g : Option Outcome) → outcome_at given n ≡ g
      → is_in_order plan (is_there kept given) after (cond (not (is_some g)) (n ∷ left given numbers) (left given numbers)) ≡ true
  left_case n numbers more before after taken all parts None g =
      let there : list_all (is_there kept outcomes) (depends plan n) ≡ true = behind_case n (outcome_at outcomes n) refl (taken n (contains_here n numbers)) in
      and_from (list_all (λ d. is_there kept given d || has after d) (depends plan n)) (is_in_order plan (is_there kept given) (n ∷ after) (left given numbers))
      (passes_all (λ d. is_there kept given d || has after d) (depends plan n)
      (λ d c. depend_case before after all d (or_cases (is_kept kept d) (has before d) (all_passes (λ m. is_kept kept m || has before m) (depends plan n) d parts.0 c)) (all_passes (is_there kept outcomes) (depends plan n) d there c)))
      (more (n ∷ before) (n ∷ after) (λ m c. taken m (contains_more n numbers m c)) (has_more before after n all) parts.1)
  left_case n numbers more before after taken all parts (Some o) g =
      more (n ∷ before) after (λ m c. taken m (contains_more n numbers m c)) (has_given before after n o g all) parts.1

  pub left_in_order : (numbers : List ℕ) → IsLeftInOrder numbers
  left_in_order [] before after taken all h = refl
  left_in_order (n ∷ numbers) before after taken all h =
      left_case n numbers (left_in_order numbers) before after taken all (and_parts (list_all (λ d. is_kept kept d || has before d) (depends plan n)) (is_in_order plan (is_kept kept) (n ∷ before) numbers) h) (outcome_at given n) refl
