use Rattle.model_laws.proofs.Closing.{part_is_greatest as law}
use Rattle.model_laws.proofs.soundness.closed_part_is_greatest.Goals as goal

pub returns : goal.returns
returns c = law
