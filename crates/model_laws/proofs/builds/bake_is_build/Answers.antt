use Rattle.model_laws.proofs.Building.{bake_is_build as law}
use Rattle.model_laws.proofs.builds.bake_is_build.Goals as goal

pub returns : goal.returns
returns c = law
