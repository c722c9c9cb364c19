use Rattle.record_laws.proofs.Beginnings.{begins_no_other}
use Rattle.record_laws.proofs.records.no_record_begins_another.Goals as goal

pub returns : goal.returns
returns c = begins_no_other
