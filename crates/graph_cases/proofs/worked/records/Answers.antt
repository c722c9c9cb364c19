use Rattle.std.proofs.Common.{refl}
use Rattle.hex.specs.Hex.{encode_with}
use Rattle.graph_cases.proofs.Counts.{none_counted, one_counted, three_counted}
use Rattle.graph_cases.proofs.worked.records.Goals as goal

pub returns-clause-recipe : goal.returns-clause-recipe
returns-clause-recipe c = simp (none_counted, one_counted, three_counted) refl

pub returns-clause-lines : goal.returns-clause-lines
unfolding encode_with
returns-clause-lines c = simp (none_counted, one_counted, three_counted) refl

pub returns-clause-old_lines : goal.returns-clause-old_lines
returns-clause-old_lines c = simp (none_counted, one_counted, three_counted) refl
