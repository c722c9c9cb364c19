-- The cause of a node by what is told of its dependencies.
use Rattle.std.proofs.Common.{◌≡◌, ℕ, ◌<◌, Bool, true, false, not, List, [], ◌∷◌, get_or, refl, ap, sym, ◌∙◌, cond, Option, Some, None}
use Rattle.std.specs.Prelude.{◌&&◌, filter, is_some, unwrap_or, if◌then◌else◌}
use Rattle.std.specs.List.{All, list_all}
use Rattle.std.specs.Option.{option_map, option_map_or}
use Rattle.std.proofs.lemmas.Bool.{true≢false}
use Rattle.std.proofs.lemmas.List.Elements.{All-get_or, All-from_get_or}
use Rattle.bulk_base.specs.Least.{least}
use Rattle.bulk_model.specs.declared.plan.Kept.{Kept as KeptPackages}
use Rattle.bulk_model.specs.declared.outcome.Outcome.TheVariants.{Built as MadePackage}
use Rattle.bulk_model.specs.declared.results.Status.{Status}
use Rattle.bulk_model.specs.declared.results.Status.TheVariants.{Kept as KeptStatus, Built as BuiltStatus, Failed as FailedStatus, Ignored as IgnoredStatus, Skipped as SkippedStatus}
use Rattle.bulk_model.specs.Cause.{cause}
use Rattle.bulk_model.specs.DryLists.{bakes_well, dry_statuses}
use Rattle.bulk_model.specs.Fit.{FitsResults, status_in, is_skipped}
use Rattle.bulk_model.specs.PlanFacts.{IsPlan}
use Rattle.bulk_model.specs.PlanView.{PlanView, count, depends, is_ignored}
use Rattle.bulk_model.specs.Results.{is_good, kept_at}
use Rattle.bulk_model.specs.Views.{PackageView}
use Rattle.dep_graph.proofs.Members.{filter_agree}
use Rattle.model_laws.specs.Results.{IsWayOn}
use Rattle.model_laws.proofs.Blaming.{causes_unfold, setback_is}
use Rattle.model_laws.proofs.Deciding.{status_with}
use Rattle.model_laws.proofs.Fitted.{stands, good_same, results_fit}
use Rattle.model_laws.proofs.Graph.{all_contained}
use Rattle.status_lists.specs.declared.fate.Fate.{Fate}
use Rattle.status_lists.specs.declared.fate.Fate.TheVariants.{Kept, Built, Ignored, Skipped}
use Rattle.status_lists.specs.Fates.{fate_by, fate_at, fate_in, has_package, blamed_by, cause_by, told_by, dry_fate}

package_same : (plan : PlanView) (statuses : List Status) (n : ℕ) (s : Status)
    → has_package (fate_by plan statuses n s) ≡ is_good s
package_same plan statuses n (KeptStatus p) = refl
package_same plan statuses n (BuiltStatus p) = refl
package_same plan statuses n (FailedStatus phase code) = refl
package_same plan statuses n IgnoredStatus = refl
package_same plan statuses n SkippedStatus = refl

blamed_same : (plan : PlanView) (statuses : List Status) (d : ℕ) (s : Status)
    → blamed_by d (fate_by plan statuses d s) ≡ (if is_skipped s then cause plan statuses d else d)
blamed_same plan statuses d (KeptStatus p) = refl
blamed_same plan statuses d (BuiltStatus p) = refl
blamed_same plan statuses d (FailedStatus phase code) = refl
blamed_same plan statuses d IgnoredStatus = refl
blamed_same plan statuses d SkippedStatus = refl

-- where all pass, none is left that fails
none_fails : (p : ℕ → Bool) (xs : List ℕ) → list_all p xs ≡ true
    → filter (λ x. not (p x)) xs ≡ []
none_fails p [] all = refl
none_fails p (x ∷ xs) all = none_case p x xs (p x) refl all (none_fails p xs)
  where
    none_case : (p : ℕ → Bool) (x : ℕ) (xs : List ℕ) (b : Bool) → p x ≡ b
        → (b && list_all p xs) ≡ true
        → (list_all p xs ≡ true → filter (λ x. not (p x)) xs ≡ [])
        → (let l : List ℕ = cond (not b) (x ∷ filter (λ x. not (p x)) xs) (filter (λ x. not (p x)) xs) in l) ≡ []
    none_case p x xs true is all rest = rest all
    none_case p x xs false is all rest = absurd (true≢false (sym all))

-- what is told of the dependencies of a node
abbrev pub AreTold : PlanView → List Status → List Fate → ℕ → Type 0
AreTold plan statuses fates n =
    All (λ d. fate_in fates d ≡ fate_at plan statuses d) (depends plan n)

module _ (plan : PlanView) (is : IsPlan plan) (statuses : List Status) (fits : FitsResults plan statuses)
    (fates : List Fate) (n : ℕ) (l : n < count plan) (told : AreTold plan statuses fates n) where
  lacking : filter (λ d. not (has_package (fate_in fates d))) (depends plan n)
      ≡ filter (λ d. not (is_good (status_in statuses d))) (depends plan n)
  lacking =
      filter_agree (λ d. not (has_package (fate_in fates d))) (λ d. not (is_good (status_in statuses d))) (depends plan n)
      (each (depends plan n) told)
    where
      each : (ds : List ℕ) → All (λ d. fate_in fates d ≡ fate_at plan statuses d) ds
          → All (λ d. not (has_package (fate_in fates d)) ≡ not (is_good (status_in statuses d))) ds
      each ds all =
          All-from_get_or (λ d. not (has_package (fate_in fates d)) ≡ not (is_good (status_in statuses d))) ds 0
          (λ i l. ap not
          (ap has_package (All-get_or (λ d. fate_in fates d ≡ fate_at plan statuses d) ds i 0 l all)
          ∙ package_same plan statuses (get_or ds i 0) (status_in statuses (get_or ds i 0))))

  pub cause_of_good : list_all (λ d. is_good (status_in statuses d)) (depends plan n) ≡ true
      → cause_by fates (depends plan n) ≡ None
  cause_of_good good =
      ap (λ xs. option_map (λ d. blamed_by d (fate_in fates d)) (least xs))
      (lacking ∙ none_fails (λ d. is_good (status_in statuses d)) (depends plan n) good)

  pub cause_of_skipped : is_skipped (status_in statuses n) ≡ true
      → cause_by fates (depends plan n) ≡ Some (cause plan statuses n)
  cause_of_skipped skipped =
      let way : (d : ℕ) × IsWayOn plan statuses n d = causes_unfold plan statuses is fits n l skipped in
      let there : fate_in fates way.0 ≡ fate_at plan statuses way.0 =
      all_contained (λ d. fate_in fates d ≡ fate_at plan statuses d) (depends plan n) way.0 told (setback_is plan statuses n way.0 way.1.least).0 in
      ap (λ xs. option_map (λ d. blamed_by d (fate_in fates d)) (least xs)) lacking
      ∙ ap (λ o. option_map (λ d. blamed_by d (fate_in fates d)) o) way.1.least
      ∙ ap Some (ap (blamed_by way.0) there ∙ blamed_same plan statuses way.0 (status_in statuses way.0) ∙ sym way.1.leads)

  -- what is told of a node by its status and its dependencies
  told_case : (s : Status) → status_in statuses n ≡ s
      → told_by s n fates (depends plan n) ≡ fate_by plan statuses n s
  told_case (KeptStatus p) e = refl
  told_case (BuiltStatus p) e = refl
  told_case (FailedStatus phase code) e = refl
  told_case IgnoredStatus e = refl
  told_case SkippedStatus e = ap (λ o. Skipped (unwrap_or o n)) (cause_of_skipped (ap is_skipped e))

  pub told_is : told_by (status_in statuses n) n fates (depends plan n) ≡ fate_at plan statuses n
  told_is = told_case (status_in statuses n) refl

-- and where each build succeeds
dry_case : (plan : PlanView) (statuses : List Status) (n : ℕ)
    (k : Option PackageView) (ignored good : Bool) (made : PackageView) (o : Option ℕ)
    → (good ≡ true → o ≡ None)
    → (is_skipped (status_with k ignored good (MadePackage made)) ≡ true → o ≡ Some (cause plan statuses n))
    → (if is_some k then Kept else (if ignored then Ignored else option_map_or Skipped o Built))
    ≡ fate_by plan statuses n (status_with k ignored good (MadePackage made))
dry_case plan statuses n (Some p) ignored good made o none some = refl
dry_case plan statuses n None true good made o none some = refl
dry_case plan statuses n None false true made o none some = ap (λ o. option_map_or Skipped o Built) (none refl)
dry_case plan statuses n None false false made o none some = ap (λ o. option_map_or Skipped o Built) (some refl)

module _ (plan : PlanView) (is : IsPlan plan) (kept : KeptPackages) (fates : List Fate) (n : ℕ)
    (l : n < count plan) (told : AreTold plan (dry_statuses plan kept) fates n) where
  pub dry_is : dry_fate plan kept n fates ≡ fate_at plan (dry_statuses plan kept) n
  dry_is =
      let fits : FitsResults plan (dry_statuses plan kept) = results_fit (bakes_well plan) plan kept is in
      let here : status_in (dry_statuses plan kept) n ≡ _ = stands (bakes_well plan) plan kept is n l in
      dry_case plan (dry_statuses plan kept) n (kept_at kept n) (is_ignored plan n) _ _
      (cause_by fates (depends plan n))
      (λ good. cause_of_good plan is (dry_statuses plan kept) fits fates n l told
      (good_same (bakes_well plan) plan kept is n l ∙ good))
      (λ skipped. cause_of_skipped plan is (dry_statuses plan kept) fits fates n l told (ap is_skipped here ∙ skipped))
      ∙ ap (fate_by plan (dry_statuses plan kept) n) (sym here)
