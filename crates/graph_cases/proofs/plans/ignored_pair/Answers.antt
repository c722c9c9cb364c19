use Rattle.graph_cases.proofs.ExampleFacts.{is_plan}
use Rattle.graph_cases.proofs.plans.ignored_pair.Goals as goal

pub invariant_of-result : goal.invariant_of-result
invariant_of-result c = rw (c.in_ok-jobs.ensures, c.in_ok-edges.ensures, c.in_ok-ignored.ensures, c.in_ok-boosted.ensures, c.new.ensures, c.new-2.ensures) is_plan
