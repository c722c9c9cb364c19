use Rattle.graph_cases.proofs.SoundStores.{empty_is_sound, one_is_sound}
use Rattle.graph_cases.proofs.worked.sound_stores.Goals as goal

pub returns-clause-empty : goal.returns-clause-empty
returns-clause-empty c = empty_is_sound

pub returns-clause-one : goal.returns-clause-one
returns-clause-one c = one_is_sound
