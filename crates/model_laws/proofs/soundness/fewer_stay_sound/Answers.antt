use Rattle.model_laws.proofs.Rounds.{fewer_stay_sound as law}
use Rattle.model_laws.proofs.soundness.fewer_stay_sound.Goals as goal

pub returns : goal.returns
returns c = law
