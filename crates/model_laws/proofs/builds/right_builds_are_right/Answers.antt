use Rattle.model_laws.proofs.Building.{right_builds_are_right as law}
use Rattle.model_laws.proofs.builds.right_builds_are_right.Goals as goal

pub returns : goal.returns
returns c = law
