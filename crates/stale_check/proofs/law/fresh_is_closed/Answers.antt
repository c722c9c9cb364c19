use Rattle.stale_check.proofs.Passes.{fresh_is_closed}
use Rattle.stale_check.proofs.law.fresh_is_closed.Goals as goal

pub returns : goal.returns
returns c = fresh_is_closed
