-- The statuses are those of each node over the others, and no other statuses are.
use Rattle.std.proofs.Common.{◌≡◌, ℕ, zero, suc, ◌<◌, true, ap, ◌∙◌, arith}
use Rattle.std.specs.Prelude.{Contains, if◌then◌else◌}
use Rattle.std.specs.List.{list_all, filter_map}
use Rattle.std.specs.Option.{option_map_or}
use Rattle.std.proofs.lemmas.List.FromFn.{get_or-map-range_with_len}
use Rattle.bulk_base.proofs.Members.{list_all_agree, filter_map_agree}
use Rattle.bulk_model.specs.declared.plan.Kept.{Kept as KeptPackages}
use Rattle.bulk_model.specs.declared.results.Status.{Status}
use Rattle.bulk_model.specs.declared.results.Status.TheVariants.{Kept, Ignored, Skipped}
use Rattle.bulk_model.specs.Fit.{status_in}
use Rattle.bulk_model.specs.Installs.{installs}
use Rattle.bulk_model.specs.PlanFacts.{IsPlan}
use Rattle.bulk_model.specs.PlanView.{PlanView, count, depends, is_ignored, away}
use Rattle.bulk_model.specs.Results.{Bakes, kept_at, is_good, package_in, status_of_outcome, status_from, status_up_to, status_at, statuses_of}
use Rattle.model_laws.specs.Results.{Solves}
use Rattle.model_laws.proofs.Graph.{target_below, all_away, depends_away, depends_below, installs_keep, installed_lie_below}

module _ (bakes : Bakes) (plan : PlanView) (kept : KeptPackages) where
  -- statuses that agree at the dependencies and at what is installed give one status
  pub from_agree : (f g : ℕ → Status) (n : ℕ) → ((d : ℕ) → Contains (depends plan n) d → f d ≡ g d)
      → ((d : ℕ) → Contains (installs plan n) d → f d ≡ g d)
      → status_from bakes plan kept f n ≡ status_from bakes plan kept g n
  from_agree f g n first all =
      let good : list_all (λ d. is_good (f d)) (depends plan n) ≡ list_all (λ d. is_good (g d)) (depends plan n) =
      list_all_agree (λ d. is_good (f d)) (λ d. is_good (g d)) (depends plan n) (λ d c. ap is_good (first d c)) in
      let same : filter_map (λ d. package_in (f d)) (installs plan n) ≡ filter_map (λ d. package_in (g d)) (installs plan n) =
      filter_map_agree (λ d. package_in (f d)) (λ d. package_in (g d)) (installs plan n) (λ d c. ap package_in (all d c)) in
      ap (λ b. option_map_or Kept (kept_at kept n) (if is_ignored plan n then Ignored else
      (if b then status_of_outcome (bakes n (filter_map (λ d. package_in (f d)) (installs plan n))) else Skipped))) good
      ∙ ap (λ packages. option_map_or Kept (kept_at kept n) (if is_ignored plan n then Ignored else
      (if list_all (λ d. is_good (g d)) (depends plan n) then status_of_outcome (bakes n packages) else Skipped))) same

  -- a bound that is high enough may be raised
  stable : (height n : ℕ) → away plan height n ≡ true
      → status_up_to bakes plan kept height n ≡ status_up_to bakes plan kept (suc height) n
  stable zero n gone = absurd (cc gone)
  stable (suc height) n gone =
      from_agree (status_up_to bakes plan kept height) (status_up_to bakes plan kept (suc height)) n
      (λ d c. stable height d (depends_below plan height n d gone c)) (λ d c. stable height d (installed_lie_below plan height n d gone c))

  pub results_unfold : IsPlan plan → Solves bakes plan kept (status_at bakes plan kept)
  results_unfold is n l = stable (count plan) n (all_away plan is n l)

  -- a node of the plan that is away after so many rounds
  record IsLow (height n : ℕ) : Type 0 where
    pub below : n < count plan
    pub gone : away plan height n ≡ true

  low_first : IsPlan plan → (height n : ℕ) → n < count plan → away plan (suc height) n ≡ true
      → (d : ℕ) → Contains (depends plan n) d → IsLow height d
  low_first is height n l gone d c = record { below = target_below plan is n d l c; gone = depends_below plan height n d gone c }

  low_keep : IsPlan plan → (height m d : ℕ) → IsLow height m → Contains (depends plan m) d
      → IsLow height d
  low_keep is height m d low c = record { below = target_below plan is m d low.below c; gone = depends_away plan height m d low.gone c }

  solved_up_to : IsPlan plan → (s : ℕ → Status) → Solves bakes plan kept s → (height n : ℕ)
      → n < count plan → away plan height n ≡ true → s n ≡ status_up_to bakes plan kept height n
  solved_up_to is s solves zero n l gone = absurd (cc gone)
  solved_up_to is s solves (suc height) n l gone =
      solves n l
      ∙ from_agree s (status_up_to bakes plan kept height) n
      (λ d c. let low : IsLow height d = low_first is height n l gone d c in solved_up_to is s solves height d low.below low.gone)
      (λ d c. let low : IsLow height d = installs_keep plan (IsLow height) (low_keep is height) n (low_first is height n l gone) d c in solved_up_to is s solves height d low.below low.gone)

  pub solutions_are_results : IsPlan plan → (s : ℕ → Status) → Solves bakes plan kept s → (n : ℕ)
      → n < count plan → s n ≡ status_at bakes plan kept n
  solutions_are_results is s solves n l = solved_up_to is s solves (count plan) n l (all_away plan is n l)

  pub results_stand : (n : ℕ) → n < count plan
      → status_in (statuses_of bakes plan kept) n ≡ status_at bakes plan kept n
  results_stand n l = get_or-map-range_with_len (status_at bakes plan kept) 0 (count plan) n n Skipped l (omega arith)
