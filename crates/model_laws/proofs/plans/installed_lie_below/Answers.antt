use Rattle.model_laws.proofs.Graph.{installed_lie_below as law}
use Rattle.model_laws.proofs.plans.installed_lie_below.Goals as goal

pub returns : goal.returns
returns c = law
