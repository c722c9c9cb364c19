use Rattle.model_laws.proofs.Blaming.{causes_are_to_blame as law}
use Rattle.model_laws.proofs.results.causes_are_to_blame.Goals as goal

pub returns : goal.returns
returns c = law
