use Rattle.plan_laws.proofs.Distfiles.{has_distfiles}
use Rattle.plan_laws.proofs.law.distfiles_are_as_stated.Goals as goal

pub returns : goal.returns
returns c = has_distfiles
