use Rattle.model_laws.proofs.Fitted.{results_fit as law}
use Rattle.model_laws.proofs.results.results_fit.Goals as goal

pub returns : goal.returns
returns c = law
