use Rattle.port_desc.proofs.Texts.{IsText-plain}
use Rattle.port_desc.proofs.values.helper.Goals as goal

pub joined-requires-2-clause-back : goal.joined-requires-2-clause-back
joined-requires-2-clause-back c = IsText-plain c.args.name.now c.requires
