use Rattle.model_laws.proofs.Following.{solutions_are_results as law}
use Rattle.model_laws.proofs.results.solutions_are_results.Goals as goal

pub returns : goal.returns
returns c = law
