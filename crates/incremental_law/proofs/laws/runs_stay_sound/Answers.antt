use Rattle.incremental_law.proofs.Ending.{runs_sound as law}
use Rattle.incremental_law.proofs.laws.runs_stay_sound.Goals as goal

pub returns : goal.returns
returns c = law
