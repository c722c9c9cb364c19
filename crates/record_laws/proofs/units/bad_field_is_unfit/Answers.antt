use Rattle.record_laws.proofs.Stopping.{bad_field_is_unfit}
use Rattle.record_laws.proofs.units.bad_field_is_unfit.Goals as goal

pub returns : goal.returns
returns c = bad_field_is_unfit
