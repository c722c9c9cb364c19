use Rattle.dep_graph.proofs.OrderLaws.{prefix_closed, chains_fall, installs_before, loopless_plan}
use Rattle.dep_graph.proofs.law.laws.Goals as goal

pub returns-clause-prefix : goal.returns-clause-prefix
returns-clause-prefix c = prefix_closed

pub returns-clause-chains : goal.returns-clause-chains
returns-clause-chains c = chains_fall

pub returns-clause-installed : goal.returns-clause-installed
returns-clause-installed c = installs_before

pub returns-clause-loopless : goal.returns-clause-loopless
returns-clause-loopless c = loopless_plan
