use Rattle.port_name.proofs.Origins.{node_form}
use Rattle.port_name.proofs.word.is_node.Goals as goal

pub returns-clause-form : goal.returns-clause-form
returns-clause-form c = node_form c.args.word.now c.has_node_form.result c.has_node_form.ensures
