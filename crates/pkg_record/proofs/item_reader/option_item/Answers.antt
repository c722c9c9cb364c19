use Rattle.std.proofs.Common.{◌≡◌, ◌∙◌, ap, sym, true}
use Rattle.bulk_base.specs.Names.{is_option_name}
use Rattle.pkg_record.specs.Said.{switch}
use Rattle.pkg_record.specs.Reading.{option_follows, last_of}
use Rattle.pkg_record.proofs.Names.{option_name, is_text-visible}
use Rattle.pkg_record.proofs.Lists.{options_grow}
use Rattle.pkg_record.proofs.item_reader.option_item.Goals as goal

pub of-requires : goal.of-requires
of-requires c = is_text-visible c.in-Some.name.now (option_name c.in-Some.name.now c.in-Some.ensures.form).1

pub returns-clause-form : goal.returns-clause-form
returns-clause-form c =
    let e : c.in_ok-name.name ≡ c.in-Some.name.now = c.in_ok-name.ensures in
    let follows : option_follows (last_of c.args.before.now) (switch c.in-Some.name.now c.in-Some.on) ≡ true = sym c.follows_option.ensures ∙ c.if-not-follows_option.false in
    options_grow c.args.before.now (switch c.in_ok-name.name c.in-Some.on)
    (ap (λ n. option_follows (last_of c.args.before.now) (switch n c.in-Some.on)) e ∙ follows) (ap is_option_name e ∙ c.in-Some.ensures.form)
