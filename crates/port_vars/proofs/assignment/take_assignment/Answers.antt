use Rattle.std.proofs.Common.{◌≡◌, ◌∙◌, ◌+◌, true, false, Ok, Err, ap, sym, subst, arith, take, drop}
use Rattle.std.specs.Option.{ok_or, option_map}
use Rattle.std.specs.FinMap as map
use Rattle.bulk_base.proofs.TextTests.{is_text-from_IsText}
use Rattle.port_vars.specs.declared.fault.LineKind.TheVariants.{Reference as Faulty}
use Rattle.port_vars.specs.Answers.{Answers}
use Rattle.std.proofs.lemmas.Result.{err_from_is_err_and}
use Rattle.bulk_base.specs.Trim.{trim}
use Rattle.port_vars.specs.Reference.{is_name, expanded}
use Rattle.port_vars.specs.Assignment.{mapped}
use Rattle.port_vars.specs.Variables.{after}
use Rattle.port_vars.proofs.TextParts.{IsText-after, rest_is}
use Rattle.port_vars.proofs.Trimmed.{IsText-trim}
use Rattle.port_vars.proofs.Assigned.{assigned_no_operator, assigned_bad_name}
use Rattle.port_vars.proofs.Taken.{expanded_err, expanded_ok}
use Rattle.port_vars.proofs.assignment.take_assignment.Goals as goal

pub returns-in_default : goal.returns-in_default
returns-in_default c = ap (mapped (after c.args.vars.now)) (assigned_no_operator c.args.limit (map.get c.args.vars.now) c.args.statement.now (sym c.in_default.ensures.value))

pub returns-then-not-is_name : goal.returns-then-not-is_name
returns-then-not-is_name c =
    let bad : c.is_name.result ≡ false = grind arith in
    ap (mapped (after c.args.vars.now)) (assigned_bad_name c.args.limit (map.get c.args.vars.now) c.args.statement.now c.in-Some.equals (sym c.in-Some.ensures.value) (ap is_name (sym c.name_of-name.ensures) ∙ sym c.is_name.ensures ∙ bad))

pub of-requires : goal.of-requires
of-requires c =
    let rest = c.in-Some.equals + 1 in
    is_text-from_IsText _ (rw (c.trim.ensures, rest_is c.args.statement.now rest) (IsText-trim (drop rest c.args.statement.now) (IsText-after c.args.statement.now c.in-Some.equals c.requires c.in-Some.ensures.place.0 (omega (arith, c.in-Some.ensures.place.1)))))

pub returns-in_err-text : goal.returns-in_err-text
returns-in_err-text c =
    let p = err_from_is_err_and c.from_residual-in_err-text.result c.from_residual-in_err-text.ensures.1 in
    let good : c.is_name.result ≡ true = grind arith in
    rw (p.1, p.2) (expanded_err c.args.limit c.args.vars.now c.args.vars.now c.args.statement.now c.in-Some.equals c.in_err-text.field-0.0 (sym c.in-Some.ensures.value)
    (ap is_name (sym c.name_of-name.ensures) ∙ sym c.is_name.ensures ∙ good)
    (let value : c.in_ok-value.value ≡ trim (drop (c.in-Some.equals + 1) c.args.statement.now) = c.in_ok-value.ensures ∙ c.trim.ensures ∙ ap trim (rest_is c.args.statement.now (c.in-Some.equals + 1)) in
    subst (λ v. Answers (ok_or (option_map (take (c.args.limit + 1)) (expanded (map.get c.args.vars.now) v)) Faulty) (Err c.in_err-text.field-0.0)) value c.in_err-text.ensures.text))

pub returns : goal.returns
returns c =
    let good : c.is_name.result ≡ true = grind arith in
    expanded_ok c.args.limit c.args.vars.now c.assign.new.vars c.args.statement.now c.in-Some.equals c.name_of-name.result.now c.as_slice.result.now c.operator_of.result c.assign.result
    (sym c.in-Some.ensures.value) c.name_of-name.ensures c.operator_of.ensures (sym c.is_name.ensures ∙ good)
    (let value : c.in_ok-value.value ≡ trim (drop (c.in-Some.equals + 1) c.args.statement.now) = c.in_ok-value.ensures ∙ c.trim.ensures ∙ ap trim (rest_is c.args.statement.now (c.in-Some.equals + 1)) in
    ap (λ v. ok_or (option_map (take (c.args.limit + 1)) (expanded (map.get c.args.vars.now) v)) Faulty) (sym value) ∙ c.in_ok-text.ensures.text ∙ ap Ok (sym c.as_slice.ensures))
    c.assign.ensures
