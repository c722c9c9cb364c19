-- The results of a plan fit it, and their built packages have the fields of their jobs.
use Rattle.std.proofs.Common.{◌≡◌, ℕ, ◌<◌, Bool, true, false, not, List, [], ◌∷◌, refl, ap, sym, subst, ◌∙◌, Option, Some, None}
use Rattle.std.specs.Prelude.{◌&&◌, ◌||◌, unwrap_or}
use Rattle.std.specs.List.{list_all, list_any, filter_map}
use Rattle.std.proofs.lemmas.List.FromFn.{length-map-range_with_len}
use Rattle.bulk_base.proofs.Members.{list_all_agree}
use Rattle.bulk_model.specs.declared.outcome.Outcome.{Outcome}
use Rattle.bulk_model.specs.declared.outcome.Outcome.TheVariants.{Built as MadePackage, Failed as FailedBuild}
use Rattle.bulk_model.specs.declared.outcome.Phase.TheVariants.{Depends as DependsPhase}
use Rattle.bulk_model.specs.declared.plan.Kept.{Kept as KeptPackages}
use Rattle.bulk_model.specs.declared.results.Status.{Status}
use Rattle.bulk_model.specs.declared.results.Status.TheVariants.{Built}
use Rattle.bulk_model.specs.Baked.{HasFieldsOf, IsOfJob}
use Rattle.bulk_model.specs.Fit.{FitsResults, status_in, is_ignored_status, is_skipped, has_setback, outcome_at}
use Rattle.bulk_model.specs.Installs.{installs}
use Rattle.bulk_model.specs.PlanFacts.{IsPlan}
use Rattle.bulk_model.specs.PlanView.{PlanView, count, depends, is_ignored, job_at}
use Rattle.bulk_model.specs.Results.{Bakes, kept_at, is_good, package_in, status_of_outcome, status_at, statuses_of, bakes_given}
use Rattle.bulk_model.specs.Views.{JobView, PackageView}
use Rattle.model_laws.specs.Builds.{GivesJobs}
use Rattle.model_laws.proofs.Deciding.{status_with}
use Rattle.model_laws.proofs.Following.{results_unfold, results_stand}
use Rattle.model_laws.proofs.Graph.{target_below}

not_ignored : (outcome : Outcome) → is_ignored_status (status_of_outcome outcome) ≡ true
    → false ≡ true
not_ignored (MadePackage p) e = e
not_ignored (FailedBuild phase code) e = e

not_skipped : (outcome : Outcome) → is_skipped (status_of_outcome outcome) ≡ true → true ≡ false
not_skipped (MadePackage p) e = sym e
not_skipped (FailedBuild phase code) e = sym e

-- just what is ignored has this status
ignored_with : (kept : Option PackageView) (ignored good : Bool) (outcome : Outcome)
    → is_ignored_status (status_with kept ignored good outcome) ≡ true → ignored ≡ true
ignored_with kept true good outcome e = refl
ignored_with (Some p) false good outcome e = e
ignored_with None false true outcome e = not_ignored outcome e
ignored_with None false false outcome e = e

-- what is skipped has a dependency without a package
skipped_with : (kept : Option PackageView) (ignored good : Bool) (outcome : Outcome)
    → is_skipped (status_with kept ignored good outcome) ≡ true → good ≡ false
skipped_with kept ignored false outcome e = refl
skipped_with (Some p) ignored true outcome e = sym e
skipped_with None true true outcome e = sym e
skipped_with None false true outcome e = not_skipped outcome e

made_of : (outcome : Outcome) (p : PackageView) → status_of_outcome outcome ≡ Built p
    → outcome ≡ MadePackage p
made_of (MadePackage q) p e = cc e
made_of (FailedBuild phase code) p e = absurd (cc e)

-- what is built is its outcome's package
pub built_with : (kept : Option PackageView) (ignored good : Bool) (outcome : Outcome) (p : PackageView)
    → status_with kept ignored good outcome ≡ Built p → outcome ≡ MadePackage p
built_with (Some q) ignored good outcome p e = absurd (cc e)
built_with None true good outcome p e = absurd (cc e)
built_with None false true outcome p e = made_of outcome p e
built_with None false false outcome p e = absurd (cc e)

fails_case : (b all any : Bool) → (all ≡ false → any ≡ true) → (b && all) ≡ false
    → (not b || any) ≡ true
fails_case true all any more h = more h
fails_case false all any more h = refl

-- where not all pass, one fails
pub some_fails : {X : Type 0} (p : X → Bool) (xs : List X) → list_all p xs ≡ false
    → list_any (λ x. not (p x)) xs ≡ true
some_fails p [] h = absurd (cc h)
some_fails p (x ∷ xs) h = fails_case (p x) (list_all p xs) (list_any (λ y. not (p y)) xs) (some_fails p xs) h

module _ (bakes : Bakes) (plan : PlanView) (kept : KeptPackages) (is : IsPlan plan) where
  abbrev s : ℕ → Status
  s = status_at bakes plan kept

  abbrev statuses : List Status
  statuses = statuses_of bakes plan kept

  abbrev good_at : ℕ → Bool
  good_at n = list_all (λ d. is_good (s d)) (depends plan n)

  abbrev outcome_of : ℕ → Outcome
  outcome_of n = bakes n (filter_map (λ d. package_in (s d)) (installs plan n))

  -- what stands at a node
  pub stands : (n : ℕ) → n < count plan
      → status_in statuses n ≡ status_with (kept_at kept n) (is_ignored plan n) (good_at n) (outcome_of n)
  stands n l = results_stand bakes plan kept n l ∙ results_unfold bakes plan kept is n l

  pub good_same : (n : ℕ) → n < count plan
      → list_all (λ d. is_good (status_in statuses d)) (depends plan n) ≡ good_at n
  good_same n l =
      list_all_agree (λ d. is_good (status_in statuses d)) (λ d. is_good (s d)) (depends plan n)
      (λ d c. ap is_good (results_stand bakes plan kept d (target_below plan is n d l c)))

  setback_at : (n : ℕ) → n < count plan → is_skipped (status_in statuses n) ≡ true
      → has_setback plan statuses n ≡ true
  setback_at n l e =
      some_fails (λ d. is_good (status_in statuses d)) (depends plan n)
      (good_same n l ∙ skipped_with (kept_at kept n) (is_ignored plan n) (good_at n) (outcome_of n) (sym (ap is_skipped (stands n l)) ∙ e))

  pub results_fit : FitsResults plan statuses
  results_fit = record {
    places = length-map-range_with_len s 0 (count plan);
    ignored = λ n l e. ignored_with (kept_at kept n) (is_ignored plan n) (good_at n) (outcome_of n) (sym (ap is_ignored_status (stands n l)) ∙ e);
    skipped = setback_at;
  }

  pub built_have_fields : GivesJobs plan bakes → (n : ℕ) (p : PackageView) → n < count plan
      → status_in statuses n ≡ Built p → HasFieldsOf (job_at plan n) p
  built_have_fields gives n p l e =
      subst (IsOfJob (job_at plan n)) (built_with (kept_at kept n) (is_ignored plan n) (good_at n) (outcome_of n) p (sym (stands n l) ∙ e))
      (gives n (filter_map (λ d. package_in (s d)) (installs plan n)) l)

-- outcomes that are given
given_case : (job : JobView) (o : Option Outcome)
    → ((outcome : Outcome) → o ≡ Some outcome → IsOfJob job outcome)
    → IsOfJob job (unwrap_or o (FailedBuild DependsPhase 0))
given_case job (Some outcome) have = have outcome refl
given_case job None have = tt

pub outcomes_give_jobs : (outcomes : List (Option Outcome)) (plan : PlanView)
    → ((n : ℕ) (outcome : Outcome) → n < count plan → outcome_at outcomes n ≡ Some outcome → IsOfJob (job_at plan n) outcome)
    → GivesJobs plan (bakes_given outcomes)
outcomes_give_jobs outcomes plan have n packages l = given_case (job_at plan n) (outcome_at outcomes n) (λ outcome e. have n outcome l e)
