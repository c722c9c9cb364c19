use Rattle.incremental_example.proofs.Meeting.{meets as law}
use Rattle.incremental_example.proofs.diamond.diamond_meets_premises.Goals as goal

pub returns : goal.returns
returns c = law
