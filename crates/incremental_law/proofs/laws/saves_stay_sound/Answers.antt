use Rattle.incremental_law.proofs.Saving.{saves_sound as law}
use Rattle.incremental_law.proofs.laws.saves_stay_sound.Goals as goal

pub returns : goal.returns
returns c = law
