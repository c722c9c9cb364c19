use Rattle.std.proofs.Common.{◌≡◌, refl, ap, sym, subst, ◌∙◌, Bool, Option, Some, None, inr}
use Rattle.std.specs.Option.{option_map_or}
use Rattle.bulk_model.specs.Baked.{IsBuildOf}
use Rattle.bulk_model.specs.Fit.{outcome_at}
use Rattle.bulk_model.specs.PlanView.{job_at}
use Rattle.bulk_model.specs.declared.outcome.Outcome.{Outcome}
use Rattle.bulk_core.specs.Turns.{is_made, packages_for}
use Rattle.bulk_core.proofs.turns.turn.Goals as goal

none_had : (o : Option Outcome) → option_map_or (λ outcome. Some (is_made outcome)) o None ≡ None → o ≡ None
none_had None e = refl
none_had (Some o) e = let z : ◌≡◌ {A = Option Bool} (Some (is_made o)) None = e in absurd (cc)

pub returns-clause-turn : goal.returns-clause-turn
returns-clause-turn g c =
    inr (record {
      outcome = c.in_ok-outcome.outcome;
      new = ap (λ xs. outcome_at xs c.args.n) (sym c.as_slice.ensures.value) ∙ none_had (outcome_at c.as_slice.result.now c.args.n) (sym c.had.ensures ∙ c.in_default.is);
      after_is = refl;
      begun_is = c.in_ok-outcome.ensures.begun;
      build = subst (λ xs. IsBuildOf g.B.Ways.Ways.tells g.B.Ways.Ways.runs c.args.plan.now.base (job_at c.args.plan.now c.args.n) (packages_for c.args.plan.now c.args.kept.now xs c.args.n) c.in_ok-outcome.outcome)
          c.as_slice-2.ensures.value c.in_ok-outcome.ensures.build;
      made_is = c.is_built-well.ensures;
    })
