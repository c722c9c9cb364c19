-- Outcomes that agree where nodes were built give the same results.
use Rattle.std.proofs.Common.{◌≡◌, ℕ, ◌<◌, Bool, true, false, List, [], ◌∷◌, refl, ap, sym, ◌∙◌, cond, Option, Some, None}
use Rattle.std.specs.Prelude.{map, unwrap_or, Contains}
use Rattle.std.specs.List.{list_all}
use Rattle.std.specs.Option.{option_map_or}
use Rattle.bulk_base.proofs.Members.{contains_here, contains_more, range_below}
use Rattle.bulk_model.specs.declared.outcome.Outcome.{Outcome}
use Rattle.bulk_model.specs.declared.outcome.Outcome.TheVariants.{Built as MadePackage, Failed as FailedBuild}
use Rattle.bulk_model.specs.declared.outcome.Phase.TheVariants.{Depends as DependsPhase}
use Rattle.bulk_model.specs.declared.plan.Kept.{Kept as KeptPackages}
use Rattle.bulk_model.specs.declared.results.Status.{Status}
use Rattle.bulk_model.specs.declared.results.Status.TheVariants.{Kept, Ignored, Skipped}
use Rattle.bulk_model.specs.Fit.{status_in, outcome_at}
use Rattle.bulk_model.specs.Order.{is_tried}
use Rattle.bulk_model.specs.PlanFacts.{IsPlan}
use Rattle.bulk_model.specs.PlanView.{PlanView, count, nodes, depends, is_ignored}
use Rattle.bulk_model.specs.Results.{Bakes, kept_at, is_good, status_of_outcome, status_from, status_at, statuses_of, bakes_given, res_given}
use Rattle.bulk_model.specs.Views.{PackageView}
use Rattle.model_laws.specs.Results.{Solves, packages_at}
use Rattle.model_laws.proofs.Following.{results_unfold, solutions_are_results, results_stand}

-- the status of a node: kept with a package, ignored, with good dependencies, built to an outcome
abbrev pub status_with : Option PackageView → Bool → Bool → Outcome → Status
status_with kept ignored good outcome = option_map_or Kept kept (cond ignored Ignored (cond good (status_of_outcome outcome) Skipped))

tried_outcome : (outcome : Outcome) → is_tried (status_of_outcome outcome) ≡ true
tried_outcome (MadePackage p) = refl
tried_outcome (FailedBuild phase code) = refl

decided : (kept : Option PackageView) (ignored good : Bool) (x y : Outcome)
    → (is_tried (status_with kept ignored good x) ≡ true → x ≡ y)
    → status_with kept ignored good x ≡ status_with kept ignored good y
decided (Some p) ignored good x y same = refl
decided None true good x y same = refl
decided None false true x y same = ap status_of_outcome (same (tried_outcome x))
decided None false false x y same = refl

tried_with : (kept : Option PackageView) (ignored good : Bool) (outcome : Outcome)
    → is_tried (status_with kept ignored good outcome) ≡ true
    → status_with kept ignored good outcome ≡ status_of_outcome outcome
tried_with (Some p) ignored good outcome t = absurd (cc t)
tried_with None true good outcome t = absurd (cc t)
tried_with None false true outcome t = refl
tried_with None false false outcome t = absurd (cc t)

-- outcomes of one status are one
pub same_outcome : (a b : Outcome) → status_of_outcome a ≡ status_of_outcome b → a ≡ b
same_outcome (MadePackage p) (MadePackage q) e = cc e
same_outcome (MadePackage p) (FailedBuild f c) e = absurd (cc e)
same_outcome (FailedBuild f c) (MadePackage q) e = absurd (cc e)
same_outcome (FailedBuild f c) (FailedBuild h d) e = cc e

-- maps that agree at each member
pub map_agree : {X Y : Type 0} (f g : X → Y) (xs : List X) → ((x : X) → Contains xs x → f x ≡ g x)
    → map f xs ≡ map g xs
map_agree f g [] same = refl
map_agree f g (x ∷ xs) same =
    ap (λ y. y ∷ map f xs) (same x (contains_here x xs)) ∙ ap (λ ys. g x ∷ ys) (map_agree f g xs (λ y c. same y (contains_more x xs y c)))

module _ (a : Bakes) (plan : PlanView) (kept : KeptPackages) (is : IsPlan plan) where
  abbrev s : ℕ → Status
  s = status_at a plan kept

  abbrev good_at : ℕ → Bool
  good_at n = list_all (λ d. is_good (s d)) (depends plan n)

  -- what was built has its build's status
  pub tried_is : (n : ℕ) → n < count plan → is_tried (s n) ≡ true
      → s n ≡ status_of_outcome (a n (packages_at plan s n))
  tried_is n l t =
      let unfolds : s n ≡ status_from a plan kept s n = results_unfold a plan kept is n l in
      unfolds ∙ tried_with (kept_at kept n) (is_ignored plan n) (good_at n) (a n (packages_at plan s n)) (sym (ap is_tried unfolds) ∙ t)

  -- builds that agree where nodes were built give the same results
  module _ (b : Bakes)
      (agree : (n : ℕ) → n < count plan → is_tried (s n) ≡ true
      → a n (packages_at plan s n) ≡ b n (packages_at plan s n)) where
    also_solves : Solves b plan kept s
    also_solves n l =
        let unfolds : s n ≡ status_from a plan kept s n = results_unfold a plan kept is n l in
        unfolds
        ∙ decided (kept_at kept n) (is_ignored plan n) (good_at n) (a n (packages_at plan s n)) (b n (packages_at plan s n))
        (λ t. agree n l (ap is_tried unfolds ∙ t))

    pub builds_decide : statuses_of a plan kept ≡ statuses_of b plan kept
    builds_decide =
        map_agree s (status_at b plan kept) (nodes plan)
        (λ n c. solutions_are_results b plan kept is s also_solves n (range_below (count plan) n c))

pub outcomes_decide : (a b : List (Option Outcome)) (plan : PlanView) (kept : KeptPackages)
    → IsPlan plan
    → ((n : ℕ) → n < count plan → is_tried (status_in (res_given a plan kept) n) ≡ true
    → outcome_at a n ≡ outcome_at b n)
    → res_given a plan kept ≡ res_given b plan kept
outcomes_decide a b plan kept is agree =
    builds_decide (bakes_given a) plan kept is (bakes_given b)
    (λ n l t. ap (λ o. unwrap_or o (FailedBuild DependsPhase 0)) (agree n l (ap is_tried (results_stand (bakes_given a) plan kept n l) ∙ t)))

pub right_outcomes_tell : (bakes : Bakes) (plan : PlanView) (kept : KeptPackages) (outcomes : List (Option Outcome))
    → IsPlan plan
    → ((n : ℕ) → n < count plan → is_tried (status_at bakes plan kept n) ≡ true
    → (outcome : Outcome) × (outcome_at outcomes n ≡ Some outcome) × (status_at bakes plan kept n ≡ status_of_outcome outcome))
    → res_given outcomes plan kept ≡ statuses_of bakes plan kept
right_outcomes_tell bakes plan kept outcomes is right =
    sym (builds_decide bakes plan kept is (bakes_given outcomes)
    (λ n l t. let found = right n l t in
    same_outcome (bakes n (packages_at plan (status_at bakes plan kept) n)) found.0 (sym (tried_is bakes plan kept is n l t) ∙ found.2)
    ∙ sym (ap (λ o. unwrap_or o (FailedBuild DependsPhase 0)) found.1)))
