use Rattle.plan_laws.proofs.Built.{plan_of_tree}
use Rattle.plan_laws.proofs.law.plans_are_of_their_tree.Goals as goal

pub returns : goal.returns
returns c = plan_of_tree
