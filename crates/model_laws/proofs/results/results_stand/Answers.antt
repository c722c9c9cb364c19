use Rattle.model_laws.proofs.Following.{results_stand as law}
use Rattle.model_laws.proofs.results.results_stand.Goals as goal

pub returns : goal.returns
returns c = law
