-- What came of each node, once all that could be built has its outcome.
use Rattle.std.proofs.Common.{◌≡◌, ℕ, ◌<◌, Bool, true, false, List, [], ◌++◌, length, get_or, refl, ap, sym, subst, ◌∙◌, cond, Option, Some, None}
use Rattle.std.specs.Prelude.{◌&&◌, ◌||◌, not, map, unwrap_or, is_some, IsTrue, Contains}
use Rattle.std.specs.List.{list_all}
use Rattle.std.specs.Option.{option_map_or}
use Rattle.std.proofs.lemmas.Bool.{true≢false, and_parts, and_from}
use Rattle.std.proofs.lemmas.List.{get_or-map}
use Rattle.std.proofs.lemmas.List.FromFn.{length-map-range_with_len, get_or-map-range_with_len}
use Rattle.bulk_base.proofs.Members.{list_all_agree, filter_into, filter_out_of, has_contains, contains_has}
use Rattle.bulk_model.specs.declared.outcome.Outcome.{Outcome}
use Rattle.bulk_model.specs.declared.outcome.Outcome.TheVariants.{Built as MadePackage, Failed as FailedBuild}
use Rattle.bulk_model.specs.declared.outcome.Phase.TheVariants.{Depends as DependsPhase}
use Rattle.bulk_model.specs.declared.plan.Kept.{Kept as KeptPackages}
use Rattle.bulk_model.specs.declared.results.Status.{Status}
use Rattle.bulk_model.specs.declared.results.Status.TheVariants.{Kept, Built, Ignored, Skipped}
use Rattle.bulk_model.specs.Bake.{Runs}
use Rattle.bulk_model.specs.Fit.{FitsResults, status_in, outcome_at, has_built, is_there}
use Rattle.bulk_model.specs.Installs.{has}
use Rattle.bulk_model.specs.Order.{is_tried, order}
use Rattle.bulk_model.specs.PlanView.{PlanView, count, nodes, depends, is_ignored}
use Rattle.bulk_model.specs.PlanFacts.{IsPlan}
use Rattle.bulk_model.specs.Results.{Bakes, kept_at, is_kept, is_good, status_of_outcome, status_at, statuses_of, bakes_by, bakes_given, res, res_given}
use Rattle.bulk_model.specs.Views.{PackageView}
use Rattle.model_laws.specs.Results.{Solves, packages_at}
use Rattle.model_laws.proofs.Deciding.{same_outcome, tried_is, builds_decide}
use Rattle.model_laws.proofs.Fitted.{results_fit}
use Rattle.model_laws.proofs.Following.{solutions_are_results}
use Rattle.model_laws.proofs.Graph.{target_below}
use Rattle.bucket_queue.specs.Taking.{AreResults}
use Rattle.bulk_core.specs.Builder.{Outcomes, outcome_in, outcomes_in, names_at, left, AreOfResults, Stay, AreOfJobs, is_in_order, AreLeft}
use Rattle.bulk_core.specs.Turns.{settled, Agrees, IsEnded}
use Rattle.bulk_core.proofs.Lists.{zero_more, agree_below}
use Rattle.bulk_core.proofs.Listed.{order_in_order, left_in_order}
use Rattle.bulk_core.proofs.Marks.{within}

abbrev status_by : Option PackageView → Bool → Option Outcome → Status
status_by k i o = option_map_or Kept k (cond i Ignored (option_map_or status_of_outcome o Skipped))

tells_again : (o : Outcome) → outcome_in (status_of_outcome o) ≡ Some o
tells_again (MadePackage p) = refl
tells_again (FailedBuild phase code) = refl

outcome_good : (o : Outcome) → is_good (status_of_outcome o) ≡ has_built (Some o)
outcome_good (MadePackage p) = refl
outcome_good (FailedBuild phase code) = refl

outcome_tried : (o : Outcome) → is_tried (status_of_outcome o) ≡ true
outcome_tried (MadePackage p) = refl
outcome_tried (FailedBuild phase code) = refl

good_case : (k : Option PackageView) (i : Bool) (o : Option Outcome) → ((x : Outcome) → o ≡ Some x → i ≡ false) → is_good (status_by k i o) ≡ (is_some k || has_built o)
good_case (Some p) i o own = refl
good_case None true None own = refl
good_case None true (Some x) own = absurd (true≢false (own x refl))
good_case None false None own = refl
good_case None false (Some x) own = outcome_good x

tried_case : (k : Option PackageView) (i : Bool) (o : Option Outcome) → ((x : Outcome) → o ≡ Some x → (is_some k ≡ false) × (i ≡ false)) → is_tried (status_by k i o) ≡ is_some o
tried_case (Some p) i None own = refl
tried_case (Some p) i (Some x) own = absurd (true≢false (own x refl).0)
tried_case None true None own = refl
tried_case None true (Some x) own = absurd (true≢false (own x refl).1)
tried_case None false None own = refl
tried_case None false (Some x) own = outcome_tried x

made_of : (o : Outcome) (p : PackageView) → status_of_outcome o ≡ Built p → Some o ≡ Some (MadePackage p)
made_of (MadePackage q) p e = cc
made_of (FailedBuild phase code) p e = absurd (cc e)

built_of : (k : Option PackageView) (i : Bool) (o : Option Outcome) (p : PackageView) → status_by k i o ≡ Built p → o ≡ Some (MadePackage p)
built_of (Some q) i o p e = absurd (cc e)
built_of None true o p e = absurd (cc e)
built_of None false None p e = absurd (cc e)
built_of None false (Some x) p e = made_of x p e

with_outcome : (k : Option PackageView) (i : Bool) (x : Outcome) → is_some k ≡ false → i ≡ false → status_by k i (Some x) ≡ status_of_outcome x
with_outcome (Some p) i x a b = absurd (true≢false a)
with_outcome None i x a b = ap (λ t. cond t Ignored (status_of_outcome x)) b

-- what follows at a node from its outcome and its dependencies
solve_case : (k : Option PackageView) (i good : Bool) (o : Option Outcome) (build : Outcome) → ((x : Outcome) → o ≡ Some x → (good ≡ true) × (x ≡ build)) → (is_some k ≡ false → i ≡ false → o ≡ None → good ≡ false)
    → status_by k i o ≡ option_map_or Kept k (cond i Ignored (cond good (status_of_outcome build) Skipped))
solve_case (Some p) i good o build some none = refl
solve_case None true good o build some none = refl
solve_case None false good None build some none = sym (ap (λ b. cond b (status_of_outcome build) Skipped) (none refl refl refl))
solve_case None false good (Some x) build some none =
    ap status_of_outcome (some x refl).1 ∙ sym (ap (λ b. cond b (status_of_outcome build) Skipped) (some x refl).0)

same_truth : (a b : Bool) → (a ≡ true → b ≡ true) → (b ≡ true → a ≡ true) → a ≡ b
same_truth true b f g = sym (f refl)
same_truth false true f g = g refl
same_truth false false f g = refl

some_is : {X : Type 0} (o : Option X) → is_some o ≡ true → (x : X) × (o ≡ Some x)
some_is None e = absurd (true≢false (sym e))
some_is (Some x) e = (x, refl)

module _ (tells : Bool) (runs : Runs) (plan : PlanView) (is : IsPlan plan) (kept : KeptPackages) (given outcomes : Outcomes) (before now : List (List ℕ)) (ended : IsEnded tells runs plan kept given outcomes before now)
    (statuses : List Status) (s : statuses ≡ map (settled plan kept outcomes) (nodes plan)) where
  abbrev at : ℕ → Status
  at n = status_in statuses n

  status_is : (n : ℕ) → n < count plan → at n ≡ settled plan kept outcomes n
  status_is n l = ap (λ list. get_or list n Skipped) s ∙ get_or-map-range_with_len (settled plan kept outcomes) 0 (count plan) n n Skipped l (zero_more n)

  size : length statuses ≡ count plan
  size = ap length s ∙ length-map-range_with_len (settled plan kept outcomes) 0 (count plan)

  node_of : (n : ℕ) (o : Outcome) → outcome_at outcomes n ≡ Some o → n < count plan
  node_of n o h = subst (λ k. n < k) ended.fits.places (within outcomes n o h)

  pub agrees : Agrees plan kept outcomes statuses
  agrees = record {
    keeps = λ n p l k. status_is n l ∙ ap (λ x. option_map_or Kept x (cond (is_ignored plan n) Ignored (option_map_or status_of_outcome (outcome_at outcomes n) Skipped))) k;
    ends = λ n o h.
        status_is n (node_of n o h) ∙ ap (λ x. status_by (kept_at kept n) (is_ignored plan n) x) h
        ∙ with_outcome (kept_at kept n) (is_ignored plan n) o (ended.fits.own n o h).0 (ended.fits.own n o h).1;
  }

  good_there : (n : ℕ) → n < count plan → list_all (λ d. is_good (at d)) (depends plan n) ≡ list_all (is_there kept outcomes) (depends plan n)
  good_there n l =
      list_all_agree (λ d. is_good (at d)) (is_there kept outcomes) (depends plan n)
      (λ d c. ap is_good (status_is d (target_below plan is n d l c)) ∙ good_case (kept_at kept d) (is_ignored plan d) (outcome_at outcomes d) (λ x h. (ended.fits.own d x h).1))

  -- the statuses are the results of any builds that give these outcomes
  module _ (bakes : Bakes) (made : (n : ℕ) (o : Outcome) → outcome_at outcomes n ≡ Some o → o ≡ bakes n (packages_at plan at n)) where
    solves : Solves bakes plan kept at
    solves n l =
        status_is n l
        ∙ solve_case (kept_at kept n) (is_ignored plan n) (list_all (λ d. is_good (at d)) (depends plan n)) (outcome_at outcomes n) (bakes n (packages_at plan at n))
        (λ x h. (good_there n l ∙ ended.fits.behind n x h, made n x h))
        (λ k i h. good_there n l ∙ ended.none_left n l k i h)

    pub results_are : statuses ≡ statuses_of bakes plan kept
    results_are =
        s ∙ agree_below (settled plan kept outcomes) (status_at bakes plan kept) (count plan) Skipped
        (λ n l. sym (status_is n l) ∙ solutions_are_results bakes plan kept is at solves n l)

  made_given : (n : ℕ) (o : Outcome) → outcome_at outcomes n ≡ Some o → o ≡ bakes_given (outcomes_in statuses) n (packages_at plan at n)
  made_given n o h =
      sym (ap (λ x. unwrap_or x (FailedBuild DependsPhase 0))
      (get_or-map outcome_in statuses n Skipped None (subst (λ k. n < k) (sym size) (node_of n o h)) ∙ ap outcome_in (agrees.ends n o h) ∙ tells_again o))

  pub by_outcomes : statuses ≡ res_given (outcomes_in statuses) plan kept
  by_outcomes = results_are (bakes_given (outcomes_in statuses)) made_given

  pub are_results : AreResults plan kept statuses
  are_results = record { bakes = bakes_given (outcomes_in statuses); are = by_outcomes }

  order_is : ended.numbers ≡ order plan kept statuses
  order_is = ended.order_is statuses are_results agrees

  -- where the baker tells
  abbrev bakes_after : Bakes
  bakes_after n packages = unwrap_or (outcome_at given n) (bakes_by runs plan n packages)

  made_after_case : IsTrue tells → (n : ℕ) (o : Outcome) → outcome_at outcomes n ≡ Some o → (g : Option Outcome) → outcome_at given n ≡ g → o ≡ unwrap_or g (bakes_by runs plan n (packages_at plan at n))
  made_after_case t n o h None g = (ended.builds statuses agrees n o h g).told t
  made_after_case t n o h (Some x) g = let z : Some o ≡ Some x = sym h ∙ ended.stays n x g in cc

  agree_case : AreOfResults (bakes_by runs plan) plan kept given → (n : ℕ) → n < count plan → is_tried (status_at (bakes_by runs plan) plan kept n) ≡ true → (g : Option Outcome) → outcome_at given n ≡ g
      → bakes_by runs plan n (packages_at plan (status_at (bakes_by runs plan) plan kept) n) ≡ unwrap_or g (bakes_by runs plan n (packages_at plan (status_at (bakes_by runs plan) plan kept) n))
  agree_case right n l t None g = refl
  agree_case right n l t (Some x) g =
      same_outcome (bakes_by runs plan n (packages_at plan (status_at (bakes_by runs plan) plan kept) n)) x
      (sym (tried_is (bakes_by runs plan) plan kept is n l t) ∙ right.each n x g)

  pub told : IsTrue tells → AreOfResults (bakes_by runs plan) plan kept given → statuses ≡ res runs plan kept
  told t right =
      results_are bakes_after (λ n o h. made_after_case t n o h (outcome_at given n) refl)
      ∙ sym (builds_decide (bakes_by runs plan) plan kept is bakes_after (λ n l u. agree_case right n l u (outcome_at given n) refl))

  pub stay : Stay given statuses
  stay = record { each = λ n o h. agrees.ends n o (ended.stays n o h) }

  pub jobs : AreOfJobs plan given statuses
  jobs = record {
    each = λ n p l g h.
        (ended.builds statuses agrees n (MadePackage p) (built_of (kept_at kept n) (is_ignored plan n) (outcome_at outcomes n) p (sym (status_is n l) ∙ h)) g).fields;
  }

  pub fit : FitsResults plan statuses
  fit = subst (FitsResults plan) (sym by_outcomes) (results_fit (bakes_given (outcomes_in statuses)) plan kept is)

  tried : (n : ℕ) → n < count plan → is_tried (at n) ≡ is_some (outcome_at outcomes n)
  tried n l = ap is_tried (status_is n l) ∙ tried_case (kept_at kept n) (is_ignored plan n) (outcome_at outcomes n) (λ x h. ended.fits.own n x h)

  exactly : (n : ℕ) → n < count plan → has (left given ended.numbers) n ≡ (is_tried (at n) && not (is_some (outcome_at given n)))
  exactly n l =
      same_truth (has (left given ended.numbers) n) (is_tried (at n) && not (is_some (outcome_at given n)))
      (λ h. let of : Contains ended.numbers n × (not (is_some (outcome_at given n)) ≡ true) =
      filter_out_of (λ m. not (is_some (outcome_at given m))) ended.numbers n (has_contains (left given ended.numbers) n h) in
      and_from (is_tried (at n)) (not (is_some (outcome_at given n))) (tried n l ∙ ended.taken n of.0) of.1)
      (λ h. let parts : (is_tried (at n) ≡ true) × (not (is_some (outcome_at given n)) ≡ true) = and_parts (is_tried (at n)) (not (is_some (outcome_at given n))) h in
      let one : (x : Outcome) × (outcome_at outcomes n ≡ Some x) = some_is (outcome_at outcomes n) (sym (tried n l) ∙ parts.0) in
      contains_has (left given ended.numbers) n (filter_into (λ m. not (is_some (outcome_at given m))) ended.numbers n (ended.listed n one.0 one.1) parts.1))

  all_left : AreLeft plan kept given statuses (left given ended.numbers)
  all_left = record {
    exactly = exactly;
    once = ended.once;
    in_order = left_in_order plan kept given outcomes ended.fits ended.stays ended.numbers [] [] ended.taken (λ d h g. h)
        (ap (λ numbers. is_in_order plan (is_kept kept) [] numbers) order_is ∙ order_in_order plan kept statuses);
  }

  pub is_left : AreLeft plan kept given statuses (left given (order plan kept statuses))
  is_left = subst (λ numbers. AreLeft plan kept given statuses (left given numbers)) order_is all_left

  pub baked : now ≡ before ++ names_at plan (left given (order plan kept statuses))
  baked = ended.begun ∙ ap (λ numbers. before ++ names_at plan (left given numbers)) order_is
