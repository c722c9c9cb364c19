use Rattle.graph_cases.proofs.ExampleFacts.{is_job}
use Rattle.graph_cases.proofs.plans.port.Goals as goal

pub invariant_of-result : goal.invariant_of-result
invariant_of-result c =
    rw (c.new.ensures, c.new-2.ensures, c.new-3.ensures, c.new-4.ensures, c.new-5.ensures, c.new-6.ensures, c.new-7.ensures, c.new-8.ensures) (is_job c.args.name c.args.origin c.requires.name c.requires.origin)
