use Rattle.std.proofs.Common.{[], ◌∙◌, ap, sym, subst}
use Rattle.std.proofs.lemmas.Bool.{true≢false}
use Rattle.bulk_model.specs.Baked.{IsOfJob}
use Rattle.bulk_model.specs.PlanView.{job_at}
use Rattle.model_laws.proofs.Building.{outcome_of_job}
use Rattle.seat_cases.proofs.looks.end_claim.Goals as goal

pub end-requires-clause-right : goal.end-requires-clause-right
end-requires-clause-right c = record {
  fields = subst (λ job. IsOfJob job c.in-Ok.outcome)
      (c.job_of-job.ensures ∙ ap (λ n. job_at c.args.plan.now n) c.node-n.ensures.exact ∙ ap (λ plan. job_at plan c.args.ticket.node) (sym c.requires.about))
      (outcome_of_job _ _ [] c.in-Ok.outcome (c.in-Ok.ensures []));
  told = λ t. absurd (true≢false (sym t));
}
