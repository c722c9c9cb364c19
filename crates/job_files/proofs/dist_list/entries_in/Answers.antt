use Rattle.job_files.proofs.Entries.{entries_form}
use Rattle.job_files.proofs.dist_list.entries_in.Goals as goal

pub returns-in-Ok-clause-form : goal.returns-in-Ok-clause-form
returns-in-Ok-clause-form c = entries_form _ _ c.in-Ok.ensures.ok
