use Rattle.model_laws.proofs.Graph.{kept_installs_are_kept as law}
use Rattle.model_laws.proofs.plans.kept_installs_are_kept.Goals as goal

pub returns : goal.returns
returns c = law
