use Rattle.record_laws.proofs.Stopping.{short_is_unfinished}
use Rattle.record_laws.proofs.units.short_is_unfinished.Goals as goal

pub returns : goal.returns
returns c = short_is_unfinished
