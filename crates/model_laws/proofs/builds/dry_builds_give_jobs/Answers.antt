use Rattle.model_laws.proofs.Building.{dry_builds_give_jobs as law}
use Rattle.model_laws.proofs.builds.dry_builds_give_jobs.Goals as goal

pub returns : goal.returns
returns c = law
