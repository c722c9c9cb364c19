use Rattle.model_laws.proofs.Graph.{installed_are_nodes as law}
use Rattle.model_laws.proofs.plans.installed_are_nodes.Goals as goal

pub returns : goal.returns
returns c = law
