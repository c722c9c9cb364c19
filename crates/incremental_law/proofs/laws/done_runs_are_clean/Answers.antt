use Rattle.incremental_law.proofs.Ending.{done_clean as law}
use Rattle.incremental_law.proofs.laws.done_runs_are_clean.Goals as goal

pub returns : goal.returns
returns c = law
