use Rattle.incremental_law.proofs.Alike.{kept_built as law}
use Rattle.incremental_law.proofs.laws.kept_is_built.Goals as goal

pub returns : goal.returns
returns c = law
