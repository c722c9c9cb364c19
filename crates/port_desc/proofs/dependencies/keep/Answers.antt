use Rattle.std.proofs.Common.{◌∙◌, sym}
use Rattle.port_desc.proofs.Once.{among_again}
use Rattle.port_desc.proofs.dependencies.keep.Goals as goal

pub returns-then-has-clause-seen : goal.returns-then-has-clause-seen
returns-then-has-clause-seen c = among_again c.args.before.now c.args.text.now (sym c.has.ensures ∙ c.if-has.true)
