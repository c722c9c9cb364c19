use Rattle.model_laws.proofs.Building.{bakes_give_jobs as law}
use Rattle.model_laws.proofs.builds.bakes_give_jobs.Goals as goal

pub returns : goal.returns
returns c = law
