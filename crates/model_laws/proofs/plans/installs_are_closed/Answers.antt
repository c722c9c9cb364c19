use Rattle.model_laws.proofs.Graph.{installs_are_closed as law}
use Rattle.model_laws.proofs.plans.installs_are_closed.Goals as goal

pub returns : goal.returns
returns c = law
