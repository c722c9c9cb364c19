use Rattle.model_laws.proofs.Rounds.{rounds_install_all as law}
use Rattle.model_laws.proofs.soundness.rounds_install_all.Goals as goal

pub returns : goal.returns
returns c = law
