-- Where nothing is kept, all that is kept fits.
use Rattle.std.proofs.Common.{◌≡◌, ℕ, zero, suc, true, false, List, ap, subst, sym, ◌∙◌, refl, length, get_or}
use Rattle.std.specs.Prelude.{Option, None, replicate, IfSome, is_some}
use Rattle.std.proofs.lemmas.List.{length-replicate}
use Rattle.bulk_model.specs.Fit.{FitsKept, MayKeep}
use Rattle.bulk_model.specs.PlanView.{PlanView, count, job_at}
use Rattle.bulk_model.specs.Results.{kept_at, is_kept}
use Rattle.bulk_model.specs.Views.{PackageView}
use Rattle.bulk_model.specs.declared.plan.Kept.{Kept}

false_is_true : false ≡ true → ⊥
false_is_true h = absurd cc

none_at : (count n : ℕ) → get_or (replicate {A = Option PackageView} count None) n None ≡ None
none_at zero n = refl
none_at (suc count) zero = refl
none_at (suc count) (suc n) = none_at count n

pub nothing_fits : (plan : PlanView) (kept : Kept) → kept.packages ≡ replicate (length plan.jobs) None → FitsKept plan kept
nothing_fits plan kept e =
    let none : (n : ℕ) → kept_at kept n ≡ None = λ n. ap (λ ps. get_or ps n None) e ∙ none_at (length plan.jobs) n in
    record {
      places = ap length e ∙ length-replicate (length plan.jobs) None;
      allowed = λ n l k. absurd (false_is_true (sym (ap is_some (none n)) ∙ k));
      closed = λ n l k. absurd (false_is_true (sym (ap is_some (none n)) ∙ k));
      fields = λ n l. subst (λ o. IfSome o (MayKeep (job_at plan n))) (sym (none n)) tt;
    }
