use Rattle.stale_check.proofs.Passes.{greatest_is_fresh}
use Rattle.stale_check.proofs.law.greatest_is_fresh.Goals as goal

pub returns : goal.returns
returns c = greatest_is_fresh
