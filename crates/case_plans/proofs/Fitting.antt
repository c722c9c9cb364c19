-- What passes the tests at each node fits the plan.
use Rattle.std.proofs.Common.{◌≡◌, ℕ, zero, suc, ◌+◌, ◌<◌, Bool, true, false, List, [], ◌∷◌, length, refl, ap, sym, subst, ◌∙◌, arith, Option, Some, None, inl, inr, ◌⊎◌}
use Rattle.std.specs.Prelude.{◌&&◌, ◌||◌, ◌==◌, not, map, is_some, IfSome, bytes_eq}
use Rattle.std.specs.List.{list_all}
use Rattle.std.specs.Option.{option_map_or}
use Rattle.std.proofs.lemmas.Bool.{true≢false, and_parts, eqb-true, cases_eq}
use Rattle.std.proofs.lemmas.List.{nil_from_length}
use Rattle.std.proofs.lemmas.Slice.Eq.{bytes_eq-Decides}
use Rattle.bulk_model.specs.declared.outcome.Outcome.{Outcome}
use Rattle.bulk_model.specs.declared.plan.Kept.{Kept as KeptPackages}
use Rattle.bulk_model.specs.Fit.{MayKeep, FitsKept, FitsPartial, outcome_at, is_there}
use Rattle.bulk_model.specs.PlanView.{PlanView, count, depends, is_ignored, job_at}
use Rattle.bulk_model.specs.Results.{kept_at, is_kept}
use Rattle.bulk_model.specs.Views.{JobView, PackageView, need_of}
use Rattle.case_plans.specs.Testing.{may_keep, may_be_kept, may_be_given}

-- a test at one node more
pub more : (p : ℕ → Bool) (n : ℕ) → ((k : ℕ) → k < n → p k ≡ true) → p n ≡ true → (k : ℕ) → k < n + 1 → p k ≡ true
more p n all now k l = at_case (cases_eq k n)
  where
    at_case : (k ≡ n) ⊎ (k ≡ n → ⊥) → p k ≡ true
    at_case (inl same) = ap p same ∙ now
    at_case (inr apart) = all k (let ne : k ≡ n → ⊥ = apart in omega arith)

pub is_true : (b : Bool) → not b ≡ false → b ≡ true
is_true true e = refl
is_true false e = absurd (true≢false e)

not_true : (b : Bool) → not b ≡ true → b ≡ false
not_true false e = refl
not_true true e = absurd (true≢false (sym e))

implied : (b x : Bool) → (not b || x) ≡ true → b ≡ true → x ≡ true
implied true x h e = h
implied false x h e = absurd (true≢false (sym e))

keeps : (job : JobView) (p : PackageView) → may_keep job p ≡ true → MayKeep job p
keeps job p h =
    let a = and_parts (bytes_eq p.name job.name) ((length p.options == 0) && ((length job.options == 0) && ((length p.depends == 0) && (length job.depends == 0)))) h in
    let b = and_parts (length p.options == 0) ((length job.options == 0) && ((length p.depends == 0) && (length job.depends == 0))) a.1 in
    let c = and_parts (length job.options == 0) ((length p.depends == 0) && (length job.depends == 0)) b.1 in
    let d = and_parts (length p.depends == 0) (length job.depends == 0) c.1 in
    record {
      name = (bytes_eq-Decides p.name job.name).0 a.0;
      options = nil_from_length p.options (eqb-true (length p.options) 0 b.0) ∙ sym (nil_from_length job.options (eqb-true (length job.options) 0 c.0));
      depends = ap (map need_of) (nil_from_length p.depends (eqb-true (length p.depends) 0 d.0)) ∙ sym (nil_from_length job.depends (eqb-true (length job.depends) 0 d.1));
    }

keep_case : (job : JobView) (k : Option PackageView) → option_map_or (may_keep job) k true ≡ true → IfSome k (MayKeep job)
keep_case job None h = tt
keep_case job (Some p) h = keeps job p h

pub kept_fits : (plan : PlanView) (kept : KeptPackages) → length kept.packages ≡ count plan → ((n : ℕ) → n < count plan → may_be_kept plan kept n ≡ true)
    → ((n : ℕ) → n < count plan → option_map_or (may_keep (job_at plan n)) (kept_at kept n) true ≡ true) → FitsKept plan kept
kept_fits plan kept size may fields = record {
  places = size;
  allowed = λ n l k. not_true (is_ignored plan n) (and_parts (not (is_ignored plan n)) (list_all (is_kept kept) (depends plan n)) (implied (is_kept kept n) (not (is_ignored plan n) && list_all (is_kept kept) (depends plan n)) (may n l) k)).0;
  closed = λ n l k. (and_parts (not (is_ignored plan n)) (list_all (is_kept kept) (depends plan n)) (implied (is_kept kept n) (not (is_ignored plan n) && list_all (is_kept kept) (depends plan n)) (may n l) k)).1;
  fields = λ n l. keep_case (job_at plan n) (kept_at kept n) (fields n l);
}

within : (outcomes : List (Option Outcome)) (n : ℕ) (o : Outcome) → outcome_at outcomes n ≡ Some o → n < length outcomes
within [] n o e = absurd (let z : ◌≡◌ {A = Option Outcome} None (Some o) = e in cc)
within (x ∷ xs) zero o e = omega arith
within (x ∷ xs) (suc n) o e = let l : n < length xs = within xs n o e in omega arith

module _ (plan : PlanView) (kept : KeptPackages) (outcomes : List (Option Outcome)) (size : length outcomes ≡ count plan) (may : (n : ℕ) → n < count plan → may_be_given plan kept outcomes n ≡ true) where
  given_parts : (n : ℕ) (o : Outcome) → outcome_at outcomes n ≡ Some o → (not (is_kept kept n) && (not (is_ignored plan n) && list_all (is_there kept outcomes) (depends plan n))) ≡ true
  given_parts n o e =
      implied (is_some (outcome_at outcomes n)) (not (is_kept kept n) && (not (is_ignored plan n) && list_all (is_there kept outcomes) (depends plan n)))
      (may n (subst (λ k. n < k) size (within outcomes n o e))) (ap is_some e)

  rest_of : (n : ℕ) (o : Outcome) → outcome_at outcomes n ≡ Some o → (not (is_ignored plan n) && list_all (is_there kept outcomes) (depends plan n)) ≡ true
  rest_of n o e = (and_parts (not (is_kept kept n)) (not (is_ignored plan n) && list_all (is_there kept outcomes) (depends plan n)) (given_parts n o e)).1

  pub partial_fits : FitsPartial plan kept outcomes
  partial_fits = record {
    places = size;
    own = λ n o e. (
      not_true (is_kept kept n) (and_parts (not (is_kept kept n)) (not (is_ignored plan n) && list_all (is_there kept outcomes) (depends plan n)) (given_parts n o e)).0,
      not_true (is_ignored plan n) (and_parts (not (is_ignored plan n)) (list_all (is_there kept outcomes) (depends plan n)) (rest_of n o e)).0,
    );
    behind = λ n o e. (and_parts (not (is_ignored plan n)) (list_all (is_there kept outcomes) (depends plan n)) (rest_of n o e)).1;
  }
