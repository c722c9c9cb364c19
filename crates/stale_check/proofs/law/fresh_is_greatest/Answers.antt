use Rattle.stale_check.proofs.Passes.{fresh_is_greatest}
use Rattle.stale_check.proofs.law.fresh_is_greatest.Goals as goal

pub returns : goal.returns
returns c = fresh_is_greatest
