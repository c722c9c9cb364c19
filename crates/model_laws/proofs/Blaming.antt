-- The way from a skipped node to its cause ends at a node that failed or is ignored.
use Rattle.std.proofs.Common.{◌≡◌, ℕ, zero, suc, ◌<◌, ◌≤◌, Bool, true, false, not, List, [], ◌∷◌, refl, ap, sym, subst, ◌∙◌, cond, arith, Option, Some, None, inl, inr, ◌⊎◌}
use Rattle.std.specs.Prelude.{min, filter, Contains}
use Rattle.std.specs.List.{fold}
use Rattle.std.specs.Option.{option_map_or}
use Rattle.std.proofs.lemmas.Bool.{cases_lt}
use Rattle.bulk_base.specs.Least.{least}
use Rattle.bulk_base.proofs.Members.{contains_here, contains_more, contains_cases, contains_none, filter_into, filter_out_of, any_member}
use Rattle.bulk_model.specs.declared.results.Status.{Status}
use Rattle.bulk_model.specs.declared.results.Status.TheVariants.{Kept, Built, Failed, Ignored, Skipped}
use Rattle.bulk_model.specs.Cause.{least_setback, cause_within, cause}
use Rattle.bulk_model.specs.Fit.{FitsResults, status_in, is_skipped}
use Rattle.bulk_model.specs.PlanFacts.{IsPlan}
use Rattle.bulk_model.specs.PlanView.{PlanView, count, depends, away}
use Rattle.bulk_model.specs.Results.{is_good}
use Rattle.model_laws.specs.Results.{is_to_blame, IsWayOn}
use Rattle.model_laws.proofs.Graph.{target_below, all_away, depends_below}

-- the least of some numbers is one of them
min_case : (x y : ℕ) → (x < y) ⊎ (y ≤ x) → (min x y ≡ x) ⊎ (min x y ≡ y)
min_case x y (inl l) = inl (omega arith)
min_case x y (inr l) = inr (omega arith)

fold_in : (x : ℕ) (xs : List ℕ) → Contains (x ∷ xs) (fold min x xs)
fold_in x [] = contains_here x []
fold_in x (y ∷ xs) =
    elim (contains_cases (min x y) xs (fold min (min x y) xs) (fold_in (min x y) xs)) [
      | inl same ↦
          elim (min_case x y (cases_lt x y)) [
            | inl e ↦ subst (λ z. Contains (x ∷ y ∷ xs) z) (sym e ∙ same) (contains_here x (y ∷ xs))
            | inr e ↦ subst (λ z. Contains (x ∷ y ∷ xs) z) (sym e ∙ same) (contains_more x (y ∷ xs) y (contains_here y xs))
          ]
      | inr c ↦ contains_more x (y ∷ xs) (fold min (min x y) xs) (contains_more y xs (fold min (min x y) xs) c)
    ]

pub least_in : (xs : List ℕ) (d : ℕ) → least xs ≡ Some d → Contains xs d
least_in [] d e = absurd (cc e)
least_in (x ∷ xs) d e = let same : fold min x xs ≡ d = cc e in subst (λ z. Contains (x ∷ xs) z) same (fold_in x xs)

pub least_there : (xs : List ℕ) (x : ℕ) → Contains xs x → (d : ℕ) × (least xs ≡ Some d)
least_there [] x c = absurd (contains_none x c)
least_there (y ∷ xs) x c = (fold min y xs, refl)

by_test : (P : ℕ → Type 0) (b : Bool) (x y : ℕ) → (b ≡ true → P x) → (b ≡ false → P y)
    → P (cond b x y)
by_test P true x y f g = f refl
by_test P false x y f g = g refl

way_agrees : (f g : ℕ → ℕ) (o : Option ℕ) (n : ℕ) → ((d : ℕ) → o ≡ Some d → f d ≡ g d)
    → option_map_or f o n ≡ option_map_or g o n
way_agrees f g (Some d) n same = same d refl
way_agrees f g None n same = refl

blamed : (s : Status) → not (is_good s) ≡ true → is_skipped s ≡ false → is_to_blame s ≡ true
blamed (Kept p) bad ends = bad
blamed (Built p) bad ends = bad
blamed (Failed phase code) bad ends = refl
blamed Ignored bad ends = refl
blamed Skipped bad ends = sym ends

module _ (plan : PlanView) (statuses : List Status) where
  abbrev lacks : ℕ → Bool
  lacks d = not (is_good (status_in statuses d))

  -- the way on, where so many steps lead on from a setback
  abbrev by : ℕ → ℕ → ℕ
  by steps d = cond (is_skipped (status_in statuses d)) (cause_within plan statuses steps d) d

  -- a least setback is a dependency without a package
  pub setback_is : (n d : ℕ) → least_setback plan statuses n ≡ Some d
      → Contains (depends plan n) d × (lacks d ≡ true)
  setback_is n d e = filter_out_of lacks (depends plan n) d (least_in (filter lacks (depends plan n)) d e)

  -- a bound that is high enough may be raised
  stable : (steps n : ℕ) → away plan steps n ≡ true
      → cause_within plan statuses steps n ≡ cause_within plan statuses (suc steps) n
  stable zero n gone = absurd (cc gone)
  stable (suc steps) n gone =
      way_agrees (by steps) (by (suc steps)) (least_setback plan statuses n) n
      (λ d e. ap (λ c. cond (is_skipped (status_in statuses d)) c d) (stable steps d (depends_below plan steps n d gone (setback_is n d e).0)))

  module _ (is : IsPlan plan) (fits : FitsResults plan statuses) where
    pub setback : (n : ℕ) → n < count plan → is_skipped (status_in statuses n) ≡ true
        → (d : ℕ) × (least_setback plan statuses n ≡ Some d)
    setback n l skipped =
        let m = any_member lacks (depends plan n) (fits.skipped n l skipped) in
        least_there (filter lacks (depends plan n)) m.one (filter_into lacks (depends plan n) m.one m.is m.does)

    pub causes_unfold : (n : ℕ) → n < count plan → is_skipped (status_in statuses n) ≡ true
        → (d : ℕ) × IsWayOn plan statuses n d
    causes_unfold n l skipped =
        let s : (d : ℕ) × (least_setback plan statuses n ≡ Some d) = setback n l skipped in (
          s.0,
          record {
            least = s.1;
            below = target_below plan is n s.0 l (setback_is n s.0 s.1).0;
            leads = stable (count plan) n (all_away plan is n l) ∙ ap (λ o. option_map_or (by (count plan)) o n) s.1;
          },
        )

    abbrev IsBlamed : ℕ → Type 0
    IsBlamed n = (n < count plan) × (is_to_blame (status_in statuses n) ≡ true)

    blamed_within : (steps n : ℕ) → away plan steps n ≡ true → n < count plan
        → is_skipped (status_in statuses n) ≡ true → IsBlamed (cause_within plan statuses steps n)
    blamed_within zero n gone l skipped = absurd (cc gone)
    blamed_within (suc steps) n gone l skipped =
        let s : (d : ℕ) × (least_setback plan statuses n ≡ Some d) = setback n l skipped in
        let here : Contains (depends plan n) s.0 × (lacks s.0 ≡ true) = setback_is n s.0 s.1 in
        let below : s.0 < count plan = target_below plan is n s.0 l here.0 in
        subst IsBlamed (sym (ap (λ o. option_map_or (by steps) o n) s.1))
        (by_test IsBlamed (is_skipped (status_in statuses s.0)) (cause_within plan statuses steps s.0) s.0
        (λ e. blamed_within steps s.0 (depends_below plan steps n s.0 gone here.0) below e)
        (λ e. (below, blamed (status_in statuses s.0) here.1 e)))

    pub causes_are_to_blame : (n : ℕ) → n < count plan → is_skipped (status_in statuses n) ≡ true
        → IsBlamed (cause plan statuses n)
    causes_are_to_blame n l skipped = blamed_within (count plan) n (all_away plan is n l) l skipped
