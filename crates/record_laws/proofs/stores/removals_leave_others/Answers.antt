use Rattle.record_laws.proofs.Storing.{after_a_removal}
use Rattle.record_laws.proofs.stores.removals_leave_others.Goals as goal

pub returns : goal.returns
returns c = after_a_removal
