use Rattle.std.proofs.Common.{[], sym, subst}
use Rattle.bulk_model.specs.PlanFacts.{IsPlan}
use Rattle.case_plans.proofs.PlanParts.{is_plan}
use Rattle.case_plans.proofs.plans.made.Goals as goal

pub invariant_of-result : goal.invariant_of-result
invariant_of-result c =
    subst (λ base. IsPlan (record { jobs = c.args.jobs; edges = c.args.edges; ignored = c.args.ignored; wanted = c.new.result; base = base; boosted = c.args.boosted })) (sym c.new-2.ensures)
    (subst (λ wanted. IsPlan (record { jobs = c.args.jobs; edges = c.args.edges; ignored = c.args.ignored; wanted = wanted; base = []; boosted = c.args.boosted })) (sym c.new.ensures)
    (is_plan c.args.jobs c.args.edges c.args.ignored c.args.boosted c.requires))
