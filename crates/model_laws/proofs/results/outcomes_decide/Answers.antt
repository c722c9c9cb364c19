use Rattle.model_laws.proofs.Deciding.{outcomes_decide as law}
use Rattle.model_laws.proofs.results.outcomes_decide.Goals as goal

pub returns : goal.returns
returns c = law
