use Rattle.std.proofs.Common.{refl}
use Rattle.graph_cases.proofs.worked.builds.Goals as goal

pub returns-clause-unknown : goal.returns-clause-unknown
returns-clause-unknown c = refl

pub returns-clause-failed : goal.returns-clause-failed
returns-clause-failed c = refl

pub returns-clause-collided : goal.returns-clause-collided
returns-clause-collided c = refl
