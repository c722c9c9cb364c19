-- What is kept counts as built.
use Rattle.std.proofs.Common.{◌≡◌, ℕ, zero, suc, ◌<◌, length, List, [], ◌∷◌, Bool, true, false, refl, ap, sym, ◌∙◌, Option, Some, None, cond}
use Rattle.std.specs.Prelude.{Contains, if◌then◌else◌, map, slice_index_or}
use Rattle.std.specs.List.{list_all, filter_map}
use Rattle.std.specs.Option.{option_map_or}
use Rattle.bulk_base.proofs.Members.{all_passes, passes_all, list_all_agree, filter_map_agree}
use Rattle.bulk_model.specs.declared.outcome.Outcome.{Outcome}
use Rattle.bulk_model.specs.declared.outcome.Outcome.TheVariants.{Built as MadePackage, Failed as FailedBuild}
use Rattle.bulk_model.specs.declared.plan.Kept.{Kept as KeptPackages}
use Rattle.bulk_model.specs.declared.results.Status.{Status}
use Rattle.bulk_model.specs.declared.results.Status.TheVariants.{Kept, Built, Failed, Ignored, Skipped}
use Rattle.bulk_model.specs.Bake.{Runs, bake}
use Rattle.bulk_model.specs.Installs.{installs}
use Rattle.bulk_model.specs.PlanFacts.{IsPlan}
use Rattle.bulk_model.specs.PlanView.{PlanView, count, job_at, is_ignored, depends, away}
use Rattle.bulk_model.specs.Results.{kept_at, is_good, package_in, status_of_outcome, status_of_build, status_up_to, status_at, bakes_by}
use Rattle.bulk_model.specs.Views.{PackageView}
use Rattle.model_laws.proofs.Graph.{installs_keep, depends_away, target_below, all_away}
use Rattle.incremental_law.specs.Clean.{none_kept, as_built, AreMade, IsAsClean}

good_built : (s : Status) → is_good s ≡ is_good (as_built s)
good_built (Kept p) = refl
good_built (Built p) = refl
good_built (Failed phase code) = refl
good_built Ignored = refl
good_built Skipped = refl

package_built : (s : Status) → package_in s ≡ package_in (as_built s)
package_built (Kept p) = refl
package_built (Built p) = refl
package_built (Failed phase code) = refl
package_built Ignored = refl
package_built Skipped = refl

outcome_built : (r : Outcome) → as_built (status_of_outcome r) ≡ status_of_outcome r
outcome_built (MadePackage p) = refl
outcome_built (FailedBuild phase code) = refl

-- a build over statuses that count alike
build_built : (good : Bool) (r : Outcome) → as_built (cond good (status_of_outcome r) Skipped) ≡ cond good (status_of_outcome r) Skipped
build_built true r = outcome_built r
build_built false r = refl

ignored_built : (ignored : Bool) (s t : Status) → as_built s ≡ t → as_built (cond ignored Ignored s) ≡ cond ignored Ignored t
ignored_built true s t e = refl
ignored_built false s t e = e

none_in : {X : Type 0} (xs : List X) (n : ℕ) → slice_index_or (map {B = Option PackageView} (λ x. None) xs) n None ≡ None
none_in [] n = refl
none_in (x ∷ xs) zero = refl
none_in (x ∷ xs) (suc n) = none_in xs n

none_at : (plan : PlanView) (n : ℕ) → kept_at (none_kept plan) n ≡ None
none_at plan n = none_in plan.jobs n

-- a node that is away after some rounds and has some package kept
pub record Stands (plan : PlanView) (kept : KeptPackages) (height n : ℕ) : Type 0 where
  pub below : n < count plan
  pub gone : away plan height n ≡ true
  pub one : PackageView
  pub is : kept_at kept n ≡ Some one

module _ (runs : Runs) (plan : PlanView) (kept : KeptPackages) (is_plan : IsPlan plan) (made : AreMade runs plan kept) where
  abbrev before : ℕ → ℕ → Status
  before height = status_up_to (bakes_by runs plan) plan kept height

  abbrev clean : ℕ → ℕ → Status
  clean height = status_up_to (bakes_by runs plan) plan (none_kept plan) height

  clean_from : (height n : ℕ) → clean (suc height) n ≡ (if is_ignored plan n then Ignored else status_of_build (bakes_by runs plan) plan (clean height) n)
  clean_from height n = ap (λ o. option_map_or Kept o (if is_ignored plan n then Ignored else status_of_build (bakes_by runs plan) plan (clean height) n)) (none_at plan n)

  abbrev IsAlike : ℕ → Type 0
  IsAlike height = (n : ℕ) → n < count plan → away plan height n ≡ true → as_built (before height n) ≡ clean height n

  kept_status : (height n : ℕ) (p : PackageView) → away plan height n ≡ true → kept_at kept n ≡ Some p → before height n ≡ Kept p
  kept_status zero n p gone e = absurd (cc gone)
  kept_status (suc height) n p gone e = ap (λ o. option_map_or Kept o (if is_ignored plan n then Ignored else status_of_build (bakes_by runs plan) plan (before height) n)) e

  stands_keep : (height m d : ℕ) → Stands plan kept height m → Contains (depends plan m) d → Stands plan kept height d
  stands_keep height m d s c =
      let next : (q : PackageView) × (kept_at kept d ≡ Some q) = made.closed m d s.one s.below s.is c in
      record { below = target_below plan is_plan m d s.below c; gone = depends_away plan height m d s.gone c; one = next.0; is = next.1 }

  stands_clean : (height d : ℕ) → IsAlike height → (s : Stands plan kept height d) → clean height d ≡ Built s.one
  stands_clean height d alike s = sym (alike d s.below s.gone) ∙ ap as_built (kept_status height d s.one s.gone s.is)

  pub record IsLow (height n : ℕ) : Type 0 where
    pub below : n < count plan
    pub gone : away plan height n ≡ true

  low_keep : (height m d : ℕ) → IsLow height m → Contains (depends plan m) d → IsLow height d
  low_keep height m d s c = record { below = target_below plan is_plan m d s.below c; gone = depends_away plan height m d s.gone c }

  -- a kept node is built anew to the same package
  kept_alike : (height n : ℕ) (p : PackageView) → IsAlike height → n < count plan → away plan (suc height) n ≡ true → kept_at kept n ≡ Some p → clean (suc height) n ≡ Built p
  kept_alike height n p alike l gone e =
      let first : (d : ℕ) → Contains (depends plan n) d → Stands plan kept height d =
      λ d c. (let next : (q : PackageView) × (kept_at kept d ≡ Some q) = made.closed n d p l e c in
      record { below = target_below plan is_plan n d l c; gone = all_passes (away plan height) (depends plan n) d gone c; one = next.0; is = next.1 }) in
      let all : (d : ℕ) → Contains (installs plan n) d → Stands plan kept height d = λ d c. installs_keep plan (Stands plan kept height) (stands_keep height) n first d c in
      let good : list_all (λ d. is_good (clean height d)) (depends plan n) ≡ true =
      passes_all (λ d. is_good (clean height d)) (depends plan n) (λ d c. ap is_good (stands_clean height d alike (first d c))) in
      let same : filter_map (λ d. package_in (clean height d)) (installs plan n) ≡ filter_map (kept_at kept) (installs plan n) =
      filter_map_agree (λ d. package_in (clean height d)) (kept_at kept) (installs plan n) (λ d c. ap package_in (stands_clean height d alike (all d c)) ∙ sym (all d c).is) in
      clean_from height n
      ∙ ap (λ b. cond b Ignored (status_of_build (bakes_by runs plan) plan (clean height) n)) (made.free n p l e)
      ∙ ap (λ b. cond b (status_of_outcome (bake runs plan.base (job_at plan n) (filter_map (λ d. package_in (clean height d)) (installs plan n)))) Skipped) good
      ∙ ap (λ packages. status_of_outcome (bake runs plan.base (job_at plan n) packages)) same
      ∙ ap status_of_outcome (made.made n p l e)

  other_alike : (height n : ℕ) → IsAlike height → n < count plan → away plan (suc height) n ≡ true → as_built (status_of_build (bakes_by runs plan) plan (before height) n) ≡ status_of_build (bakes_by runs plan) plan (clean height) n
  other_alike height n alike l gone =
      let first : (d : ℕ) → Contains (depends plan n) d → IsLow height d =
      λ d c. record { below = target_below plan is_plan n d l c; gone = all_passes (away plan height) (depends plan n) d gone c } in
      let all : (d : ℕ) → Contains (installs plan n) d → IsLow height d = λ d c. installs_keep plan (IsLow height) (low_keep height) n first d c in
      let good : list_all (λ d. is_good (before height d)) (depends plan n) ≡ list_all (λ d. is_good (clean height d)) (depends plan n) =
      list_all_agree (λ d. is_good (before height d)) (λ d. is_good (clean height d)) (depends plan n)
      (λ d c. good_built (before height d) ∙ ap is_good (alike d (first d c).below (first d c).gone)) in
      let same : filter_map (λ d. package_in (before height d)) (installs plan n) ≡ filter_map (λ d. package_in (clean height d)) (installs plan n) =
      filter_map_agree (λ d. package_in (before height d)) (λ d. package_in (clean height d)) (installs plan n)
      (λ d c. package_built (before height d) ∙ ap package_in (alike d (all d c).below (all d c).gone)) in
      build_built (list_all (λ d. is_good (before height d)) (depends plan n)) (bake runs plan.base (job_at plan n) (filter_map (λ d. package_in (before height d)) (installs plan n)))
      ∙ ap (λ b. cond b (status_of_outcome (bake runs plan.base (job_at plan n) (filter_map (λ d. package_in (before height d)) (installs plan n)))) Skipped) good
      ∙ ap (λ packages. cond (list_all (λ d. is_good (clean height d)) (depends plan n)) (status_of_outcome (bake runs plan.base (job_at plan n) packages)) Skipped) same

  step : (height n : ℕ) → IsAlike height → n < count plan → away plan (suc height) n ≡ true → (o : Option PackageView) → kept_at kept n ≡ o → as_built (before (suc height) n) ≡ clean (suc height) n
  step height n alike l gone (Some p) e = ap as_built (kept_status (suc height) n p gone e) ∙ sym (kept_alike height n p alike l gone e)
  step height n alike l gone None e =
      ap (λ o. as_built (option_map_or Kept o (if is_ignored plan n then Ignored else status_of_build (bakes_by runs plan) plan (before height) n))) e
      ∙ ignored_built (is_ignored plan n) (status_of_build (bakes_by runs plan) plan (before height) n) (status_of_build (bakes_by runs plan) plan (clean height) n) (other_alike height n alike l gone)
      ∙ sym (clean_from height n)

  alike_at : (height : ℕ) → IsAlike height
  alike_at zero n l gone = absurd (cc gone)
  alike_at (suc height) n l gone = step height n (alike_at height) l gone (kept_at kept n) refl

  pub kept_built : IsAsClean runs plan kept
  kept_built n l = alike_at (count plan) n l (all_away plan is_plan n l)
