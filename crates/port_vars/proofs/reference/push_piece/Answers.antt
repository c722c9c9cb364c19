use Rattle.std.proofs.Common.{lit<, refl}
use Rattle.port_vars.proofs.TextParts.{IsText-byte}
use Rattle.port_vars.proofs.FirstBytes.{first_is_text}
use Rattle.port_vars.proofs.reference.push_piece.Goals as goal

pub returns-then-plain-clause-form : goal.returns-then-plain-clause-form
returns-then-plain-clause-form c = λ h short. first_is_text c.args.most c.args.out.now.items _ _ c.in_ok-push_most.ensures h (rw (← c.bytes.ensures.same) at c.bytes.ensures.form) short

pub returns-then-is_empty-clause-form : goal.returns-then-is_empty-clause-form
returns-then-is_empty-clause-form c = λ h short. first_is_text c.args.most c.args.out.now.items _ _ c.in_ok-push_most-2.ensures h (IsText-byte 36 (lit< tt) refl) short
