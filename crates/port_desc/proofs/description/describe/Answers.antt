use Rattle.std.proofs.Common.{◌≡◌, ◌∙◌, Ok, ap, sym, subst}
use Rattle.std.specs.Option.{option_copied}
use Rattle.std.specs.FinMap as map
use Rattle.std.proofs.lemmas.Result.{err_from_is_err_and}
use Rattle.bulk_base.specs.Names.{IsPackageName}
use Rattle.port_desc.specs.Values.{names_on}
use Rattle.port_desc.specs.Dependencies.{entries_of, AreEntries}
use Rattle.port_desc.specs.Description.{desc_with}
use Rattle.port_desc.proofs.Described.{name_refused, entries_refused, all_good, desc_with-name, desc_with-entries}
use Rattle.port_desc.proofs.description.describe.Goals as goal

pub returns-in_err-name-clause-refused : goal.returns-in_err-name-clause-refused
returns-in_err-name-clause-refused c =
    let p = err_from_is_err_and c.from_residual.result c.from_residual.ensures.1 in
    rw (p.1, p.2) (λ some. name_refused (map.get c.args.vars.now) (option_copied c.args.flavor) c.args.options.now _ (c.in_err-name.ensures.refused some))

pub returns-in_err-entries-clause-refused : goal.returns-in_err-entries-clause-refused
returns-in_err-entries-clause-refused c =
    let p = err_from_is_err_and c.from_residual-in_err-entries.result c.from_residual-in_err-entries.ensures.1 in
    let values = map.get c.args.vars.now in
    let flavor = option_copied c.args.flavor in
    let on : names_on c.args.options.now ≡ c.as_slice-2.result.now = sym (c.as_slice-2.ensures ∙ c.in_ok-on.ensures ∙ ap names_on c.as_slice.ensures) in
    rw (p.1, p.2) (λ some. entries_refused values flavor c.args.options.now c.in_ok-name.name _ c.in_ok-name.ensures.ok (ap (entries_of values flavor) on ∙ c.in_err-entries.ensures.refused some))

pub returns-clause-ok : goal.returns-clause-ok
returns-clause-ok c =
    let values = map.get c.args.vars.now in
    let flavor = option_copied c.args.flavor in
    let on : names_on c.args.options.now ≡ c.as_slice-2.result.now = sym (c.as_slice-2.ensures ∙ c.in_ok-on.ensures ∙ ap names_on c.as_slice.ensures) in
    let again : names_on c.args.options.now ≡ c.as_slice-3.result.now = sym (c.as_slice-3.ensures ∙ c.in_ok-on.ensures ∙ ap names_on c.as_slice.ensures) in
    all_good values flavor c.args.options.now c.in_ok-name.name c.in_ok-entries.entries c.in_ok-name.ensures.ok (ap (entries_of values flavor) on ∙ c.in_ok-entries.ensures.ok)
    ∙ ap Ok (ap (λ x. desc_with values flavor x c.in_ok-name.name c.in_ok-entries.entries) again ∙ sym c.in_ok-desc_with.ensures)

pub returns-clause-name : goal.returns-clause-name
returns-clause-name c =
    let name = desc_with-name (map.get c.args.vars.now) (option_copied c.args.flavor) c.as_slice-3.result.now c.in_ok-name.name c.in_ok-entries.entries in
    subst IsPackageName (sym (ap (λ desc. desc.name) c.in_ok-desc_with.ensures ∙ name)) c.in_ok-name.ensures.form

pub returns-clause-entries : goal.returns-clause-entries
returns-clause-entries c =
    let entries = desc_with-entries (map.get c.args.vars.now) (option_copied c.args.flavor) c.as_slice-3.result.now c.in_ok-name.name c.in_ok-entries.entries in
    subst AreEntries (sym (ap (λ desc. desc.entries) c.in_ok-desc_with.ensures ∙ entries)) c.in_ok-entries.ensures.sound
