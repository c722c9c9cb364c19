use Rattle.std.proofs.Common.{◌∙◌, arith}
use Rattle.std.proofs.lemmas.Result.{err_from_is_err_and}
use Rattle.port_vars.proofs.ReadSoFar.{too_long, read_line, read_fault, read_all, each_value}
use Rattle.port_vars.proofs.vars.read_within.Goals as goal

pub returns-then-bytes-limits-clause-bad_line : goal.returns-then-bytes-limits-clause-bad_line
returns-then-bytes-limits-clause-bad_line c = λ some. too_long c.args.limits c.args.bytes.now (omega arith)

pub returns-in_err-take_numbered-clause-bad_line : goal.returns-in_err-take_numbered-clause-bad_line
returns-in_err-take_numbered-clause-bad_line c =
    let p = err_from_is_err_and c.from_residual-in_err-take_numbered.result c.from_residual-in_err-take_numbered.ensures.1 in
    rw (p.1, p.2) (read_fault c.args.limits c.args.bytes.now c.as_slice-line-items.result.now c.loop-line.line-index c.line-item.result c.loop-line.values c.take_numbered.new.vars c.in_err-take_numbered.field-0.0
    (omega arith) (c.as_slice-line-items.ensures ∙ c.in_ok-lines.ensures) (omega arith) c.line-item.is c.loop-line.invariant c.in_err-take_numbered.ensures)

pub loop-line-preserved : goal.loop-line-preserved
loop-line-preserved c =
    read_line c.args.limits c.as_slice-line-items.result.now c.loop-line.line-index c.line-item.result c.loop-line.values c.take_numbered.new.vars (omega arith) c.line-item.is c.in_ok-take_numbered.ensures c.loop-line.invariant

pub returns-clause-ok : goal.returns-clause-ok
returns-clause-ok c =
    read_all c.args.limits c.args.bytes.now c.as_slice-line-items.result.now c.loop-line.line-index c.loop-line.values (omega arith) (c.as_slice-line-items.ensures ∙ c.in_ok-lines.ensures) (omega arith) c.loop-line.invariant

pub returns-clause-value : goal.returns-clause-value
returns-clause-value c =
    each_value c.args.limits c.args.bytes.now c.loop-line.values
    (read_all c.args.limits c.args.bytes.now c.as_slice-line-items.result.now c.loop-line.line-index c.loop-line.values (omega arith) (c.as_slice-line-items.ensures ∙ c.in_ok-lines.ensures) (omega arith) c.loop-line.invariant)
