use Rattle.record_laws.proofs.Storing.{other_put, other_removal}
use Rattle.record_laws.proofs.stores.other_changes_leave_all.Goals as goal

pub returns-clause-puts : goal.returns-clause-puts
returns-clause-puts c = other_put

pub returns-clause-removals : goal.returns-clause-removals
returns-clause-removals c = other_removal
