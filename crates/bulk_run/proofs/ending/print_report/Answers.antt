use Rattle.bulk_run.proofs.Printing.{lists_begin}
use Rattle.bulk_run.proofs.ending.print_report.Goals as goal

pub returns-in-Ok-clause-begun : goal.returns-in-Ok-clause-begun
returns-in-Ok-clause-begun g c t = lists_begin _ _ _ _ c.as_slice.ensures (c.in-Ok.ensures.told t)
