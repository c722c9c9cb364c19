use Rattle.std.proofs.Common.{◌≡◌, ◌∙◌, ap, sym, subst, Ok, Err}
use Rattle.std.specs.Prelude.{find, None}
use Rattle.std.specs.Option.{option_copied}
use Rattle.bulk_base.specs.Order.{in_order}
use Rattle.tree_index.specs.declared.fault.IndexError.TheVariants.{BadPort}
use Rattle.tree_index.specs.declared.fault.PortKind.TheVariants.{BadValue}
use Rattle.tree_index.specs.Gathered.{IsNameList}
use Rattle.tree_index.specs.VarFiles.{is_no_port_name}
use Rattle.tree_index.proofs.NameLists.{names_listed, listed_by, refused_by}
use Rattle.tree_index.proofs.listing.names_among.Goals as goal

pub returns-in_ok-in_order-in-None-clause-ok : goal.returns-in_ok-in_order-in-None-clause-ok
returns-in_ok-in_order-in-None-clause-ok c =
    let none : find is_no_port_name c.args.words.now ≡ None = sym c.first_bad.ensures ∙ ap option_copied c.in-None.is in
    listed_by c.args.path.now c.args.words.now none ∙ ap Ok (sym (c.in_ok-in_order-in-None.ensures ∙ ap in_order c.as_slice.ensures))

pub returns-in_ok-in_order-in-None-clause-form : goal.returns-in_ok-in_order-in-None-clause-form
returns-in_ok-in_order-in-None-clause-form c =
    let none : find is_no_port_name c.args.words.now ≡ None = sym c.first_bad.ensures ∙ ap option_copied c.in-None.is in
    subst IsNameList (sym (c.in_ok-in_order-in-None.ensures ∙ ap in_order c.as_slice.ensures)) (names_listed c.args.words.now none)

pub returns-in_ok-name-in-Some-clause-refused : goal.returns-in_ok-name-in-Some-clause-refused
returns-in_ok-name-in-Some-clause-refused c = λ some.
    refused_by c.args.path.now c.in-Some.field-0.now c.args.words.now (sym c.first_bad.ensures ∙ ap option_copied c.in-Some.is)
    ∙ sym (ap Err (c.bad_port.ensures.told some ∙ ap (λ name. BadPort c.args.path.now 0 (BadValue name)) c.in_ok-name-in-Some.ensures))
