use Rattle.incremental_law.proofs.Running.{sound_at}
use Rattle.incremental_law.proofs.laws.each_content_is_sound.Goals as goal

pub returns : goal.returns
returns c runs table plan tree own content deleted changes store rest = sound_at runs table plan tree own content deleted store rest changes
