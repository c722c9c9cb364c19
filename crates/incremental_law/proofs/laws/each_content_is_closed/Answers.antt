use Rattle.incremental_law.proofs.Running.{closed_at}
use Rattle.incremental_law.proofs.laws.each_content_is_closed.Goals as goal

pub returns : goal.returns
returns c runs table plan tree own content deleted changes store rest = closed_at runs table plan tree own content deleted store rest changes
