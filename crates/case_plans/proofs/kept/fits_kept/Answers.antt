use Rattle.std.proofs.Common.{◌≡◌, ◌≤◌, length, ap, sym, ◌∙◌, true, arith}
use Rattle.std.specs.Option.{option_map_or}
use Rattle.bulk_model.specs.PlanView.{job_at}
use Rattle.bulk_model.specs.Results.{kept_at}
use Rattle.case_plans.specs.Testing.{may_keep, may_be_kept}
use Rattle.case_plans.proofs.Fitting.{more, kept_fits}
use Rattle.case_plans.proofs.kept.fits_kept.Goals as goal

pub loop-n-preserved : goal.loop-n-preserved
loop-n-preserved c = record {
  may = more (may_be_kept c.args.plan.now c.args.kept.now) c.loop-n.n c.loop-n.invariant.may (sym c.may_be_kept.ensures ∙ cc);
  fields = more (λ k. option_map_or (may_keep (job_at c.args.plan.now k)) (kept_at c.args.kept.now k) true) c.loop-n.n c.loop-n.invariant.fields (sym c.may_keep_at.ensures ∙ cc);
}

pub returns : goal.returns
returns c t =
    let jobs : length c.plan.inside.jobs ≡ length c.args.plan.now.jobs = ap (λ p. length p.jobs) c.plan.view_is in
    let end : c.len-n-end.result ≡ length c.plan.inside.jobs = c.len-n-end.ensures in
    let done : c.len-n-end.result ≤ c.loop-n.n = c.loop-n-test.false in
    kept_fits c.args.plan.now c.args.kept.now (sym c.len.ensures ∙ c.if-len.false ∙ c.len-2.ensures ∙ jobs)
    (λ n l. c.loop-n.invariant.may n (omega arith)) (λ n l. c.loop-n.invariant.fields n (omega arith))
