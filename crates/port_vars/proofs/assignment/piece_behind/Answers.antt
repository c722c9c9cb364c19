use Rattle.std.proofs.Common.{◌∙◌, ◌++◌, ap}
use Rattle.port_vars.proofs.Changed.{spaced_is_text}
use Rattle.port_vars.proofs.assignment.piece_behind.Goals as goal

pub returns-clause-form : goal.returns-clause-form
returns-clause-form c = λ most h short.
    spaced_is_text most c.args.text.now c.from_vec.result
    (c.from_vec.ensures ∙ c.in_ok-extend_from_slice.ensures.items ∙ ap (λ x. x ++ c.args.text.now) c.in_ok-piece.ensures.items)
    h short
