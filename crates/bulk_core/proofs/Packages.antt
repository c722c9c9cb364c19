-- The packages that are installed for a build, by any statuses that agree with the outcomes so far.
use Rattle.std.proofs.Common.{◌≡◌, ℕ, ◌<◌, Bool, true, false, List, refl, ap, sym, ◌∙◌, cond, Option, Some, None}
use Rattle.std.specs.Prelude.{◌||◌, is_some, Contains}
use Rattle.std.specs.List.{list_all}
use Rattle.std.specs.Option.{option_map_or}
use Rattle.std.proofs.lemmas.Bool.{true≢false}
use Rattle.bulk_base.proofs.Members.{all_passes, filter_map_agree}
use Rattle.bulk_model.specs.declared.outcome.Outcome.{Outcome}
use Rattle.bulk_model.specs.declared.outcome.Outcome.TheVariants.{Built as MadePackage, Failed as FailedBuild}
use Rattle.bulk_model.specs.declared.plan.Kept.{Kept as KeptPackages}
use Rattle.bulk_model.specs.declared.results.Status.{Status}
use Rattle.bulk_model.specs.declared.results.Status.TheVariants.{Kept, Ignored, Skipped}
use Rattle.bulk_model.specs.Views.{PackageView}
use Rattle.bulk_model.specs.Fit.{FitsKept, FitsPartial, status_in, outcome_at, has_built, is_there}
use Rattle.bulk_model.specs.Installs.{installs}
use Rattle.bulk_model.specs.PlanView.{PlanView, count, depends, is_ignored}
use Rattle.bulk_model.specs.PlanFacts.{IsPlan}
use Rattle.bulk_model.specs.Results.{kept_at, is_kept, package_in, status_of_outcome}
use Rattle.model_laws.specs.Results.{packages_at}
use Rattle.model_laws.proofs.Graph.{target_below, installs_keep}
use Rattle.bulk_core.specs.Builder.{Outcomes}
use Rattle.bulk_core.specs.Turns.{settled, packages_for, Agrees}

module _ (plan : PlanView) (is : IsPlan plan) (kept : KeptPackages) (fit : FitsKept plan kept) (outcomes : Outcomes) (fits : FitsPartial plan kept outcomes) where
  abbrev IsThere : ℕ → Type 0
  IsThere d = (d < count plan) × (is_there kept outcomes d ≡ true)

  below_kept : (b : Bool) (m : ℕ) → is_kept kept m ≡ b → (b || has_built (outcome_at outcomes m)) ≡ true → m < count plan → (d : ℕ) → Contains (depends plan m) d → is_there kept outcomes d ≡ true
  below_kept true m k h l d c = ap (λ b. b || has_built (outcome_at outcomes d)) (all_passes (is_kept kept) (depends plan m) d (fit.closed m l k) c)
  below_kept false m k h l d c = below_built (outcome_at outcomes m) refl h
    where
      below_built : (o : Option Outcome) → outcome_at outcomes m ≡ o → has_built o ≡ true → is_there kept outcomes d ≡ true
      below_built None e g = absurd (true≢false (sym g))
      below_built (Some o) e g = all_passes (is_there kept outcomes) (depends plan m) d (fits.behind m o e) c

  there_below : (m d : ℕ) → IsThere m → Contains (depends plan m) d → IsThere d
  there_below m d h c = (target_below plan is m d h.0 c, below_kept (is_kept kept m) m refl h.1 h.0 d c)

  module _ (used : Outcomes) (same : (n : ℕ) (o : Outcome) → outcome_at outcomes n ≡ Some o → outcome_at used n ≡ Some o) (statuses : List Status) (agrees : Agrees plan kept outcomes statuses) where
    built_case : (d : ℕ) (o : Option Outcome) → outcome_at outcomes d ≡ o → has_built o ≡ true → kept_at kept d ≡ None
        → package_in (settled plan kept used d) ≡ package_in (status_in statuses d)
    built_case d None e h k = absurd (true≢false (sym h))
    built_case d (Some (FailedBuild phase code)) e h k = absurd (true≢false (sym h))
    built_case d (Some (MadePackage p)) e h k =
        ap (λ o. package_in (option_map_or Kept o (cond (is_ignored plan d) Ignored (option_map_or status_of_outcome (outcome_at used d) Skipped)))) k
        ∙ ap (λ b. package_in (cond b Ignored (option_map_or status_of_outcome (outcome_at used d) Skipped))) (fits.own d (MadePackage p) e).1
        ∙ ap (λ o. package_in (option_map_or status_of_outcome o Skipped)) (same d (MadePackage p) e)
        ∙ sym (ap package_in (agrees.ends d (MadePackage p) e))

    package_case : (d : ℕ) (k : Option PackageView) → kept_at kept d ≡ k → d < count plan → (is_some k || has_built (outcome_at outcomes d)) ≡ true
        → package_in (settled plan kept used d) ≡ package_in (status_in statuses d)
    package_case d (Some p) k l h =
        ap (λ o. package_in (option_map_or Kept o (cond (is_ignored plan d) Ignored (option_map_or status_of_outcome (outcome_at used d) Skipped)))) k
        ∙ sym (ap package_in (agrees.keeps d p l k))
    package_case d None k l h = built_case d (outcome_at outcomes d) refl h k

    -- the packages for a node all of whose dependencies are there
    pub packages_same : (n : ℕ) → n < count plan → list_all (is_there kept outcomes) (depends plan n) ≡ true → packages_for plan kept used n ≡ packages_at plan (status_in statuses) n
    packages_same n l behind =
        filter_map_agree (λ d. package_in (settled plan kept used d)) (λ d. package_in (status_in statuses d)) (installs plan n)
        (λ d c.
        let there : IsThere d =
        installs_keep plan IsThere (λ m e h k. there_below m e h k) n (λ e k. (target_below plan is n e l k, all_passes (is_there kept outcomes) (depends plan n) e behind k)) d c in
        package_case d (kept_at kept d) refl there.0 there.1)
