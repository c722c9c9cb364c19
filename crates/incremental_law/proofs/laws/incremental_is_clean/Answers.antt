use Rattle.incremental_law.proofs.Making.{incremental_clean as law}
use Rattle.incremental_law.proofs.laws.incremental_is_clean.Goals as goal

pub returns : goal.returns
returns c = law
