use Rattle.model_laws.proofs.Fitted.{outcomes_give_jobs as law}
use Rattle.model_laws.proofs.builds.outcomes_give_jobs.Goals as goal

pub returns : goal.returns
returns c = law
