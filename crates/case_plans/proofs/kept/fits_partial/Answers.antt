use Rattle.std.proofs.Common.{◌≡◌, ◌≤◌, length, ap, sym, ◌∙◌, arith}
use Rattle.case_plans.specs.Testing.{may_be_given}
use Rattle.case_plans.proofs.Fitting.{more, partial_fits}
use Rattle.case_plans.proofs.kept.fits_partial.Goals as goal

pub loop-n-preserved : goal.loop-n-preserved
loop-n-preserved c = more (may_be_given c.args.plan.now c.args.kept.now c.args.outcomes.now) c.loop-n.n c.loop-n.invariant (sym c.may_be_given.ensures ∙ cc)

pub returns : goal.returns
returns c t =
    let jobs : length c.plan.inside.jobs ≡ length c.args.plan.now.jobs = ap (λ p. length p.jobs) c.plan.view_is in
    let end : c.len-n-end.result ≡ length c.plan.inside.jobs = c.len-n-end.ensures in
    let done : c.len-n-end.result ≤ c.loop-n.n = c.loop-n-test.false in
    partial_fits c.args.plan.now c.args.kept.now c.args.outcomes.now (c.if-outcomes-len.false ∙ c.len.ensures ∙ jobs)
    (λ n l. c.loop-n.invariant n (omega arith))
