use Rattle.std.proofs.Common.{subst}
use Rattle.bulk_model.specs.PlanFacts.{IsPlan}
use Rattle.bulk_core.proofs.Answering.{told, by_outcomes, stay, jobs, fit, is_left, baked}
use Rattle.bulk_core.proofs.run.run_from.Goals as goal

pub returns-clause-told : goal.returns-clause-told
returns-clause-told g c =
    told g.B.Ways.Ways.tells g.B.Ways.Ways.runs c.args.plan.now (subst IsPlan c.plan.view_is c.plan.invariant) c.args.kept.now c.args.given.items c.build_left.new.outcomes.items (g.B.Baking.begun c.args.baker.now) (g.B.Baking.begun c.build_left.new.baker) c.in_ok-build_left.ensures.ended c.in_ok-settle_all.field-0.statuses c.in_ok-settle_all.ensures

pub returns-clause-outcomes : goal.returns-clause-outcomes
returns-clause-outcomes g c =
    by_outcomes g.B.Ways.Ways.tells g.B.Ways.Ways.runs c.args.plan.now (subst IsPlan c.plan.view_is c.plan.invariant) c.args.kept.now c.args.given.items c.build_left.new.outcomes.items (g.B.Baking.begun c.args.baker.now) (g.B.Baking.begun c.build_left.new.baker) c.in_ok-build_left.ensures.ended c.in_ok-settle_all.field-0.statuses c.in_ok-settle_all.ensures

pub returns-clause-stay : goal.returns-clause-stay
returns-clause-stay g c =
    stay g.B.Ways.Ways.tells g.B.Ways.Ways.runs c.args.plan.now (subst IsPlan c.plan.view_is c.plan.invariant) c.args.kept.now c.args.given.items c.build_left.new.outcomes.items (g.B.Baking.begun c.args.baker.now) (g.B.Baking.begun c.build_left.new.baker) c.in_ok-build_left.ensures.ended c.in_ok-settle_all.field-0.statuses c.in_ok-settle_all.ensures

pub returns-clause-jobs : goal.returns-clause-jobs
returns-clause-jobs g c =
    jobs g.B.Ways.Ways.tells g.B.Ways.Ways.runs c.args.plan.now (subst IsPlan c.plan.view_is c.plan.invariant) c.args.kept.now c.args.given.items c.build_left.new.outcomes.items (g.B.Baking.begun c.args.baker.now) (g.B.Baking.begun c.build_left.new.baker) c.in_ok-build_left.ensures.ended c.in_ok-settle_all.field-0.statuses c.in_ok-settle_all.ensures

pub returns-clause-fit : goal.returns-clause-fit
returns-clause-fit g c =
    fit g.B.Ways.Ways.tells g.B.Ways.Ways.runs c.args.plan.now (subst IsPlan c.plan.view_is c.plan.invariant) c.args.kept.now c.args.given.items c.build_left.new.outcomes.items (g.B.Baking.begun c.args.baker.now) (g.B.Baking.begun c.build_left.new.baker) c.in_ok-build_left.ensures.ended c.in_ok-settle_all.field-0.statuses c.in_ok-settle_all.ensures

pub returns-clause-left : goal.returns-clause-left
returns-clause-left g c =
    is_left g.B.Ways.Ways.tells g.B.Ways.Ways.runs c.args.plan.now (subst IsPlan c.plan.view_is c.plan.invariant) c.args.kept.now c.args.given.items c.build_left.new.outcomes.items (g.B.Baking.begun c.args.baker.now) (g.B.Baking.begun c.build_left.new.baker) c.in_ok-build_left.ensures.ended c.in_ok-settle_all.field-0.statuses c.in_ok-settle_all.ensures

pub returns-clause-baked : goal.returns-clause-baked
returns-clause-baked g c =
    baked g.B.Ways.Ways.tells g.B.Ways.Ways.runs c.args.plan.now (subst IsPlan c.plan.view_is c.plan.invariant) c.args.kept.now c.args.given.items c.build_left.new.outcomes.items (g.B.Baking.begun c.args.baker.now) (g.B.Baking.begun c.build_left.new.baker) c.in_ok-build_left.ensures.ended c.in_ok-settle_all.field-0.statuses c.in_ok-settle_all.ensures
