use Rattle.model_laws.proofs.Building.{statuses_so_far_install as law}
use Rattle.model_laws.proofs.builds.statuses_so_far_install.Goals as goal

pub returns : goal.returns
returns c = law
