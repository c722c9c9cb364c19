use Rattle.port_name.proofs.Origins.{origin_form}
use Rattle.port_name.proofs.word.is_origin.Goals as goal

pub returns-clause-form : goal.returns-clause-form
returns-clause-form c = origin_form c.args.word.now c.has_origin_form.result c.has_origin_form.ensures
