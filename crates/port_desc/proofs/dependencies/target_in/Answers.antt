use Rattle.std.proofs.Common.{Err, ap, sym, ◌∙◌, arith}
use Rattle.port_desc.proofs.Targets.{three_parts, other_parts}
use Rattle.port_desc.proofs.dependencies.target_in.Goals as goal

pub returns-in-3-clause-refused : goal.returns-in-3-clause-refused
returns-in-3-clause-refused c = λ some.
    three_parts (λ part. part.now) _ c.args.word.now c.args.parts.now (omega arith) (omega arith) ∙ ap Err (sym (c.refusal_of_three.ensures some))

pub returns-in_default-clause-refused : goal.returns-in_default-clause-refused
returns-in_default-clause-refused c = λ some.
    other_parts (λ part. part.now) c.args.word.now c.args.parts.now (omega arith) (omega arith) ∙ ap Err (sym (c.bad_depend.ensures some))
