use Rattle.record_laws.proofs.Storing.{there, back, one_a_name}
use Rattle.record_laws.proofs.stores.packages_are_there.Goals as goal

pub returns-clause-there : goal.returns-clause-there
returns-clause-there c content p = (there content p, back content p)

pub returns-clause-names : goal.returns-clause-names
returns-clause-names c content p q a b e = one_a_name content p q (there content p a) (there content q b) e
