use Rattle.port_desc.proofs.Texts.{IsText-plain}
use Rattle.port_desc.proofs.reasons.reason_for.Goals as goal

pub joined-requires-clause-front : goal.joined-requires-clause-front
joined-requires-clause-front c = IsText-plain c.args.words.now c.requires.words
