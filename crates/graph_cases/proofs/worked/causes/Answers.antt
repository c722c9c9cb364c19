use Rattle.std.proofs.Common.{refl}
use Rattle.graph_cases.proofs.worked.causes.Goals as goal

pub returns-clause-through_the_skipped : goal.returns-clause-through_the_skipped
returns-clause-through_the_skipped c = refl

pub returns-clause-least_of_two : goal.returns-clause-least_of_two
returns-clause-least_of_two c = refl

pub returns-clause-ignored : goal.returns-clause-ignored
returns-clause-ignored c = refl
