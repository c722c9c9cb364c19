use Rattle.incremental_law.proofs.Making.{fresh_made as law}
use Rattle.incremental_law.proofs.laws.fresh_is_made.Goals as goal

pub returns : goal.returns
returns c = law
