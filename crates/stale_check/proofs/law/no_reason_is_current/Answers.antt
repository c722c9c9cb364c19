use Rattle.stale_check.proofs.Current.{no_reason_is_current}
use Rattle.stale_check.proofs.law.no_reason_is_current.Goals as goal

pub returns : goal.returns
returns c = no_reason_is_current
