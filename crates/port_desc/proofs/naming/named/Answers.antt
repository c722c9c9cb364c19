use Rattle.std.proofs.Common.{Err, ap, sym, ◌∙◌}
use Rattle.port_desc.proofs.Named.{named_fault}
use Rattle.port_desc.proofs.naming.named.Goals as goal

pub returns-in-Err-BadName-clause-refused : goal.returns-in-Err-BadName-clause-refused
returns-in-Err-BadName-clause-refused c = λ some.
    named_fault c.args.parts.now c.in-Err-BadName.which ((c.in-Err-BadName.ensures.bad_name c.in-Err-BadName.which).0 (ap Err c.in-Err-BadName.field-0-is))
    ∙ ap Err (sym (c.bad_value.ensures some))
