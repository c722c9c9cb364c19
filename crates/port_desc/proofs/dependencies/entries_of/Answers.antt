use Rattle.std.proofs.Common.{◌≡◌, ◌∙◌, ◌+◌, ◌<◌, ◌≤◌, Ok, Err, ap, sym, arith, drop, length}
use Rattle.std.specs.Option.{option_copied}
use Rattle.std.specs.FinMap as map
use Rattle.std.proofs.lemmas.List.{drop_more}
use Rattle.std.proofs.lemmas.Result.{err_from_is_err_and}
use Rattle.std.proofs.lemmas.Bool.Decides.{nat_tests}
use Rattle.port_desc.specs.Dependencies.{entries_among}
use Rattle.port_desc.specs.declared.fault.DescError.TheVariants.{Limit}
use Rattle.port_desc.proofs.Variables.{entries_more, entries_refused, entries_end, entries_fault, entries_few, entries_many}
use Rattle.port_desc.proofs.EntryLaws.{entries_sound}
use Rattle.port_desc.proofs.dependencies.entries_of.Goals as goal

pub returns-in_err-take_variable-clause-refused : goal.returns-in_err-take_variable-clause-refused
returns-in_err-take_variable-clause-refused c =
    let p = err_from_is_err_and c.from_residual.result c.from_residual.ensures.1 in
    let values = map.get c.args.vars.now in
    let flavor = option_copied c.args.flavor in
    let kinds = c.as_slice-kind-items.result.now in
    let at = c.loop-kind.kind-index in
    rw (p.1, p.2) (λ some. entries_fault values flavor c.args.on.now _
    (ap (entries_among values flavor c.args.on.now) (sym c.as_slice-kind-items.ensures)
    ∙ entries_refused values flavor c.args.on.now kinds c.loop-kind.found.items at _ _ (drop_more kinds at _ (omega arith)) (c.in_err-take_variable.ensures.refused some (drop (at + 1) kinds)) c.loop-kind.invariant))

pub loop-kind-preserved : goal.loop-kind-preserved
loop-kind-preserved c =
    let values = map.get c.args.vars.now in
    let flavor = option_copied c.args.flavor in
    let kinds = c.as_slice-kind-items.result.now in
    let at = c.loop-kind.kind-index in
    entries_more values flavor c.args.on.now kinds c.loop-kind.found.items c.take_variable.new.found.items at _ (drop_more kinds at _ (omega arith)) (c.in_ok-take_variable.ensures.ok (drop (at + 1) kinds)) c.loop-kind.invariant

pub returns-then-len-gt-MOST-clause-refused : goal.returns-then-len-gt-MOST-clause-refused
returns-then-len-gt-MOST-clause-refused c = λ some.
    let values = map.get c.args.vars.now in
    let flavor = option_copied c.args.flavor in
    let kinds = c.as_slice-kind-items.result.now in
    let found = c.loop-kind.found.items in
    let size : c.len-then-len-gt-MOST.result ≡ length found = omega (arith, c.loop-kind.found.ok.0, c.len-then-len-gt-MOST.ensures) in
    let many : 256 < length found = omega (arith, c.loop-kind.found.ok.0, c.len.ensures, c.if-len-gt-MOST.true) in
    entries_many values flavor c.args.on.now found
    (ap (entries_among values flavor c.args.on.now) (sym c.as_slice-kind-items.ensures) ∙ entries_end values flavor c.args.on.now kinds found c.loop-kind.kind-index (omega arith) c.loop-kind.invariant)
    (grind (arith, nat_tests)) ∙ ap (λ n. Err (Limit n)) (sym size)

pub returns-clause-ok : goal.returns-clause-ok
returns-clause-ok c =
    let values = map.get c.args.vars.now in
    let flavor = option_copied c.args.flavor in
    let kinds = c.as_slice-kind-items.result.now in
    let found = c.loop-kind.found.items in
    let low : length found ≤ 256 = omega (arith, c.loop-kind.found.ok.0, c.len.ensures, c.if-len-gt-MOST.false) in
    entries_few values flavor c.args.on.now found
    (ap (entries_among values flavor c.args.on.now) (sym c.as_slice-kind-items.ensures) ∙ entries_end values flavor c.args.on.now kinds found c.loop-kind.kind-index (omega arith) c.loop-kind.invariant)
    (grind (arith, nat_tests)) ∙ ap Ok (sym c.from_vec.ensures)

pub returns-clause-sound : goal.returns-clause-sound
returns-clause-sound c = entries_sound (map.get c.args.vars.now) (option_copied c.args.flavor) c.args.on.now c.from_vec.result (returns-clause-ok c)
