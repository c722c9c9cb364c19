use Rattle.std.proofs.Common.{◌∙◌, ◌++◌, ◌+◌, ◌-◌, Ok, ap, sym, arith, take, drop, length}
use Rattle.std.specs.Option.{option_copied, option_map, ok_or}
use Rattle.std.specs.FinMap as map
use Rattle.bulk_base.specs.Text.{IsText}
use Rattle.port_vars.specs.Reference.{close_in, referenced}
use Rattle.port_vars.specs.declared.fault.LineKind.TheVariants.{Reference as Faulty}
use Rattle.port_vars.proofs.TextParts.{IsText-after, rest_is}
use Rattle.port_vars.proofs.FirstBytes.{first_then, first_is_text}
use Rattle.port_vars.proofs.Referenced.{referenced_open, referenced_unset, referenced_set}
use Rattle.port_vars.proofs.reference.push_reference.Goals as goal

pub returns-in_default-clause-text : goal.returns-in_default-clause-text
returns-in_default-clause-text c =
    ap (λ o. ok_or (option_map (λ text. take c.args.most (c.args.out.now.items ++ text)) o) Faulty)
    (referenced_open (map.get c.args.vars.now) c.args.piece.now (ap close_in (sym c.bytes-bytes.ensures.same) ∙ sym c.in_default.ensures.value))

pub returns-in_default-2-clause-text : goal.returns-in_default-2-clause-text
returns-in_default-2-clause-text c =
    let same = c.bytes-bytes.ensures.same in
    ap (λ o. ok_or (option_map (λ text. take c.args.most (c.args.out.now.items ++ text)) o) Faulty)
    (ap (referenced (map.get c.args.vars.now)) (sym same) ∙ referenced_unset (map.get c.args.vars.now) c.bytes-bytes.result.now c.in-Some.close (sym c.in-Some.ensures.value) (sym c.in_ok-value.ensures ∙ ap option_copied c.in_default-2.is))

pub returns-clause-text : goal.returns-clause-text
returns-clause-text c =
    let same = c.bytes-bytes.ensures.same in
    ap (λ o. ok_or (option_map (λ text. take c.args.most (c.args.out.now.items ++ text)) o) Faulty)
    (ap (referenced (map.get c.args.vars.now)) (sym same) ∙ referenced_set (map.get c.args.vars.now) c.bytes-bytes.result.now c.in-Some.close c.in-Some-2.value.now (sym c.in-Some.ensures.value) (sym c.in_ok-value.ensures ∙ ap option_copied c.in-Some-2.is))
    ∙ ap Ok (sym (c.in_ok-push_most-2.ensures ∙ ap (λ r. take c.args.most (c.push_most.new.out.items ++ r)) (rest_is c.bytes-bytes.result.now (c.in-Some.close + 1))
    ∙ first_then c.args.most c.args.out.now.items c.in-Some-2.value.now _ _ (c.in_ok-push_most.ensures ∙ ap (λ r. take c.args.most (c.args.out.now.items ++ r)) c.bytes.ensures.same)))

pub returns-clause-form : goal.returns-clause-form
returns-clause-form c = λ h short.
    let bytes = rw (← c.bytes-bytes.ensures.same) at c.bytes-bytes.ensures.form in
    let rest : IsText (take (length c.bytes-bytes.result.now - (c.in-Some.close + 1)) (drop (c.in-Some.close + 1) c.bytes-bytes.result.now)) =
    rw (rest_is c.bytes-bytes.result.now (c.in-Some.close + 1)) (IsText-after c.bytes-bytes.result.now c.in-Some.close bytes c.in-Some.ensures.place.1 (omega (arith, c.in-Some.ensures.place.2))) in
    first_is_text c.args.most c.push_most.new.out.items _ _ c.in_ok-push_most-2.ensures
    (λ few. first_is_text c.args.most c.args.out.now.items _ _ c.in_ok-push_most.ensures h (rw (← c.bytes.ensures.same) at c.bytes.ensures.form) few) rest short
