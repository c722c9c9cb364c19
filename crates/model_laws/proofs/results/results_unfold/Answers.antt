use Rattle.model_laws.proofs.Following.{results_unfold as law}
use Rattle.model_laws.proofs.results.results_unfold.Goals as goal

pub returns : goal.returns
returns c = law
