use Rattle.std.proofs.Common.{refl}
use Rattle.graph_cases.proofs.worked.installed.Goals as goal

pub returns-clause-direct : goal.returns-clause-direct
returns-clause-direct c = refl

pub returns-clause-not_what_others_build_with : goal.returns-clause-not_what_others_build_with
returns-clause-not_what_others_build_with c = refl

pub returns-clause-closed : goal.returns-clause-closed
returns-clause-closed c = refl
