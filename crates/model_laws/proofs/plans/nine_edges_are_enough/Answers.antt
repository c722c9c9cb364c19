use Rattle.model_laws.proofs.Longest.{nine_edges_are_enough as law}
use Rattle.model_laws.proofs.plans.nine_edges_are_enough.Goals as goal

pub returns : goal.returns
returns c = law
