use Rattle.model_laws.proofs.Ordered.{by_node_into, by_node_out_of}
use Rattle.model_laws.proofs.soundness.members_stay.Goals as goal

pub returns : goal.returns
returns c = λ members names p. (by_node_out_of members p, by_node_into members names p)
