use Rattle.model_laws.proofs.Graph.{depends_are_installed as law}
use Rattle.model_laws.proofs.plans.depends_are_installed.Goals as goal

pub returns : goal.returns
returns c = law
