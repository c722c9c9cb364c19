use Rattle.std.proofs.Common.{refl, subst}
use Rattle.std.specs.Prelude.{bytes_eq}
use Rattle.std.specs.List.{IsDistinct}
use Rattle.one_port.specs.PortsWanted.{names_of}
use Rattle.one_port.proofs.Ending.{answered_unrefused, none_began, none_grew, some_grew}
use Rattle.one_port.proofs.top.run.Goals as goal

pub returns-in-Ok-clause-words : goal.returns-in-Ok-clause-words
returns-in-Ok-clause-words g c = answered_unrefused _ _ _ _ _ c.in-Ok.ensures.unrefused c.run_ports.ensures.refusal

pub returns-in-Err-clause-name : goal.returns-in-Err-clause-name
returns-in-Err-clause-name g c t = none_began _ _ _ refl

pub returns-in-Ok-clause-begun : goal.returns-in-Ok-clause-begun
returns-in-Ok-clause-begun g c = some_grew _ _ _ (subst (λ p. IsDistinct bytes_eq (names_of p.jobs)) c.ports.view_is c.ports.invariant) c.run_ports.ensures.begun

pub returns-in-Err-clause-begun : goal.returns-in-Err-clause-begun
returns-in-Err-clause-begun g c = none_grew _ _ refl
