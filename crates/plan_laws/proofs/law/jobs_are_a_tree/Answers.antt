use Rattle.plan_laws.proofs.Jobs.{is_tree}
use Rattle.plan_laws.proofs.law.jobs_are_a_tree.Goals as goal

pub returns : goal.returns
returns c = is_tree
