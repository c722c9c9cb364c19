use Rattle.std.proofs.Common.{refl}
use Rattle.graph_cases.proofs.Counts.{none_counted, one_counted, two_counted, three_counted}
use Rattle.graph_cases.proofs.worked.printed.Goals as goal

pub returns-clause-failed : goal.returns-clause-failed
returns-clause-failed c = simp (none_counted, one_counted, two_counted, three_counted) refl

pub returns-clause-ignored : goal.returns-clause-ignored
returns-clause-ignored c = simp (none_counted, one_counted, two_counted) refl

pub returns-clause-deleted : goal.returns-clause-deleted
returns-clause-deleted c = simp (none_counted, one_counted, two_counted) refl

pub returns-clause-setback : goal.returns-clause-setback
returns-clause-setback c = refl

pub returns-clause-none : goal.returns-clause-none
returns-clause-none c = refl
