use Rattle.std.proofs.Common.{◌≡◌, ◌∙◌, ap, sym, subst, length}
use Rattle.std.specs.Prelude.{◌==◌}
use Rattle.std.specs.FinMap as map
use Rattle.std.proofs.lemmas.Result.{err_from_is_err_and}
use Rattle.bulk_base.specs.Trim.{trim}
use Rattle.port_vars.specs.Assignment.{statement, assigned, mapped}
use Rattle.port_vars.specs.Variables.{after}
use Rattle.port_vars.specs.Answers.{Leaves}
use Rattle.port_vars.proofs.Trimmed.{IsText-trim}
use Rattle.port_vars.proofs.Taken.{readable_err, empty_line, stated_line}
use Rattle.port_vars.proofs.assignment.take_line.Goals as goal

pub returns-in_err-readable : goal.returns-in_err-readable
returns-in_err-readable c =
    let p = err_from_is_err_and c.from_residual.result c.from_residual.ensures.1 in
    rw (p.1, p.2) (readable_err c.args.limits c.args.vars.now c.args.vars.now c.args.line.now c.in_err-readable.field-0.0 c.in_err-readable.ensures)

pub returns-then-is_empty : goal.returns-then-is_empty
returns-then-is_empty c =
    empty_line c.args.limits c.args.vars.now c.args.line.now c.in_ok-readable.field-0 c.in_ok-readable.ensures
    (let text : c.trim-statement.result.now ≡ statement c.in_ok-readable.field-0 = c.trim-statement.ensures ∙ ap trim (c.bytes.ensures.same ∙ c.in_ok-line.ensures) in
    ap (λ t. length t == 0) (sym text) ∙ sym c.is_empty.ensures ∙ c.if-is_empty.true)

pub take_assignment-requires : goal.take_assignment-requires
take_assignment-requires c = rw c.trim-statement.ensures (IsText-trim c.bytes.result.now (rw (← c.bytes.ensures.same) at c.bytes.ensures.form))

pub returns : goal.returns
returns c =
    let text : c.trim-statement.result.now ≡ statement c.in_ok-readable.field-0 = c.trim-statement.ensures ∙ ap trim (c.bytes.ensures.same ∙ c.in_ok-line.ensures) in
    stated_line c.args.limits c.args.vars.now c.take_assignment.new.vars c.args.line.now c.in_ok-readable.field-0 c.take_assignment.result c.in_ok-readable.ensures
    (ap (λ t. length t == 0) (sym text) ∙ sym c.is_empty.ensures ∙ c.if-is_empty.false)
    (subst (λ t. Leaves (mapped (after c.args.vars.now) (assigned c.args.limits.value (map.get c.args.vars.now) t)) c.take_assignment.result c.take_assignment.new.vars) text c.take_assignment.ensures)
