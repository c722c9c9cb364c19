use Rattle.std.proofs.Common.{refl}
use Rattle.graph_cases.proofs.worked.statuses.Goals as goal

pub returns-clause-all_built : goal.returns-clause-all_built
returns-clause-all_built c = refl

pub returns-clause-all_skipped : goal.returns-clause-all_skipped
returns-clause-all_skipped c = refl

pub returns-clause-all_kept : goal.returns-clause-all_kept
returns-clause-all_kept c = refl

pub returns-clause-ignored : goal.returns-clause-ignored
returns-clause-ignored c = refl

pub returns-clause-collided : goal.returns-clause-collided
returns-clause-collided c = refl
