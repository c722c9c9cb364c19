use Rattle.std.proofs.Common.{refl}
use Rattle.graph_cases.proofs.Counts.{none_counted, one_counted, two_counted, three_counted}
use Rattle.graph_cases.proofs.worked.dry_runs.Goals as goal

pub returns-clause-in_order : goal.returns-clause-in_order
returns-clause-in_order c = simp (none_counted, three_counted) refl

pub returns-clause-skipped : goal.returns-clause-skipped
returns-clause-skipped c = simp (none_counted, one_counted, two_counted) refl
