use Rattle.one_port.proofs.Ending.{decided_by_tree, ended_by_tree, value_by_tree, read_inner, read_leaves}
use Rattle.one_port.proofs.decision.find_ports.Goals as goal

pub returns-clause-told : goal.returns-clause-told
returns-clause-told g c t = decided_by_tree _ c.ports_in.result (c.ports_in.ensures.told t)

pub returns-clause-before_store : goal.returns-clause-before_store
returns-clause-before_store g c t = ended_by_tree _ c.ports_in.result (c.ports_in.ensures.told t) c.ports_in.ensures.reading

pub returns-clause-ports : goal.returns-clause-ports
returns-clause-ports g c t = value_by_tree _ c.ports_in.result (c.ports_in.ensures.told t)

pub returns-clause-inner : goal.returns-clause-inner
returns-clause-inner g c = read_inner c.ports_in.result c.ports_in.ensures.reading

pub returns-clause-store : goal.returns-clause-store
returns-clause-store g c = (read_leaves c.ports_in.result c.ports_in.ensures.reading).0

pub returns-clause-room : goal.returns-clause-room
returns-clause-room g c = (read_leaves c.ports_in.result c.ports_in.ensures.reading).1

pub returns-clause-words : goal.returns-clause-words
returns-clause-words g c = (read_leaves c.ports_in.result c.ports_in.ensures.reading).2
