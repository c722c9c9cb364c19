use Rattle.model_laws.proofs.Blaming.{causes_unfold as law}
use Rattle.model_laws.proofs.results.causes_unfold.Goals as goal

pub returns : goal.returns
returns c = law
