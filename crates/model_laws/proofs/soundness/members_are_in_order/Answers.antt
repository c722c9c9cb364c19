use Rattle.model_laws.proofs.Ordered.{members_are_in_order as law}
use Rattle.model_laws.proofs.soundness.members_are_in_order.Goals as goal

pub returns : goal.returns
returns c = law
