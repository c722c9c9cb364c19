use Rattle.model_laws.proofs.Graph.{installed_all as law}
use Rattle.model_laws.proofs.plans.installed_all.Goals as goal

pub returns : goal.returns
returns c = law
