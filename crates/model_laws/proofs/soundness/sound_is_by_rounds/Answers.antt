use Rattle.model_laws.proofs.Rounds.{by_rounds, from_rounds}
use Rattle.model_laws.proofs.soundness.sound_is_by_rounds.Goals as goal

pub returns : goal.returns
returns c = λ runs table members names. (by_rounds runs table members names, from_rounds runs table members names)
