use Rattle.incremental_law.proofs.Adding.{one_more_sound as law}
use Rattle.incremental_law.proofs.laws.one_more_stays_sound.Goals as goal

pub returns : goal.returns
returns c = law
