use Rattle.model_laws.proofs.Deciding.{right_outcomes_tell as law}
use Rattle.model_laws.proofs.results.right_outcomes_tell.Goals as goal

pub returns : goal.returns
returns c = law
