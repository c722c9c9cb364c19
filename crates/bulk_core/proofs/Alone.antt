-- No outcome is given.
use Rattle.std.proofs.Common.{◌≡◌, ℕ, List, [], ◌∷◌, replicate, refl, ap, sym, subst, ◌∙◌, cond, Some, None}
use Rattle.std.specs.Prelude.{◌&&◌, ◌||◌, not, is_some}
use Rattle.bulk_model.specs.declared.outcome.Outcome.{Outcome}
use Rattle.bulk_model.specs.declared.plan.Kept.{Kept as KeptPackages}
use Rattle.bulk_model.specs.declared.results.Status.{Status}
use Rattle.bulk_model.specs.Fit.{status_in, outcome_at, has_built, is_there}
use Rattle.bulk_model.specs.Order.{is_tried}
use Rattle.bulk_model.specs.PlanView.{PlanView, count}
use Rattle.bulk_model.specs.Results.{Bakes, is_kept}
use Rattle.bulk_core.specs.Builder.{Outcomes, left, AreOfResults, AreOfJobs, AreLeft, Began}
use Rattle.bulk_core.proofs.Ending.{none_at}
use Rattle.bulk_core.proofs.Listed.{in_order_agree}

module _ (plan : PlanView) (kept : KeptPackages) (given : Outcomes) (e : given ≡ replicate (count plan) None) where
  nothing : (n : ℕ) → outcome_at given n ≡ None
  nothing n = ap (λ list. outcome_at list n) e ∙ none_at (count plan) n

  not_some : (n : ℕ) (o : Outcome) → outcome_at given n ≡ Some o → ⊥
  not_some n o h = let z : None ≡ Some o = sym (nothing n) ∙ h in cc

  pub nothing_right : (bakes : Bakes) → AreOfResults bakes plan kept given
  nothing_right bakes = record { each = λ n o h. absurd (not_some n o h) }

  pub all_jobs : (statuses : List Status) → AreOfJobs plan given statuses → AreOfJobs plan [] statuses
  all_jobs statuses a = record { each = λ n p l g h. a.each n p l (nothing n) h }

  pub all_left : (numbers : List ℕ) → left given numbers ≡ numbers
  all_left [] = refl
  all_left (n ∷ numbers) =
      ap (λ o. cond (not (is_some o)) (n ∷ left given numbers) (left given numbers)) (nothing n) ∙ ap (λ rest. n ∷ rest) (all_left numbers)

  there_same : (d : ℕ) → is_there kept given d ≡ is_there kept [] d
  there_same d = ap (λ o. is_kept kept d || has_built o) (nothing d)

  pub are_left : (statuses : List Status) (numbers : List ℕ) → AreLeft plan kept given statuses (left given numbers) → AreLeft plan kept [] statuses numbers
  are_left statuses numbers a =
      let b : AreLeft plan kept given statuses numbers = subst (AreLeft plan kept given statuses) (all_left numbers) a in
      record {
        exactly = λ n l. b.exactly n l ∙ ap (λ o. is_tried (status_in statuses n) && not (is_some o)) (nothing n);
        once = b.once;
        in_order = sym (in_order_agree plan (is_there kept given) (is_there kept []) there_same [] numbers) ∙ b.in_order;
      }

  pub began_alone : (before now : List (List ℕ)) → Began plan kept given before now → Began plan kept [] before now
  began_alone before now b = record {
    numbers = b.numbers;
    grew = b.grew;
    once = b.once;
    those = λ n c. record { node = (b.those n c).node; kept_not = (b.those n c).kept_not; ignored_not = (b.those n c).ignored_not; new = refl };
  }
