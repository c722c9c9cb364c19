use Rattle.std.proofs.Common.{◌∙◌, Ok, Err, ap, sym, arith}
use Rattle.port_vars.proofs.Readable.{readable_no_text, readable_long, readable_text}
use Rattle.port_vars.proofs.assignment.readable.Goals as goal

pub returns-in-Err-NotText : goal.returns-in-Err-NotText
returns-in-Err-NotText c = readable_no_text c.args.limit c.args.line.now (c.in-Err-NotText.ensures.not_text.0 (ap Err c.in-Err-NotText.field-0-is))

pub returns-then-line-limit : goal.returns-then-line-limit
returns-then-line-limit c = readable_long c.args.limit c.args.line.now c.in-Ok.ensures.form (omega arith)

pub returns : goal.returns
returns c = readable_text c.args.limit c.args.line.now c.in-Ok.ensures.form (omega arith) ∙ ap Ok (sym c.in-Ok.ensures.ok)
