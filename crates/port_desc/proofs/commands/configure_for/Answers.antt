use Rattle.std.proofs.Common.{◌≡◌, ◌++◌, IfOk, ap, subst, ◌∙◌}
use Rattle.std.specs.Prelude.{codes}
use Rattle.std.specs.Option.{option_copied}
use Rattle.std.specs.FinMap as map
use Rattle.port_desc.specs.Values.{words_by_options}
use Rattle.port_desc.specs.Commands.{commands_for, with_words, configure_for}
use Rattle.port_desc.proofs.commands.configure_for.Goals as goal

pub returns : goal.returns
returns c =
    let values = map.get c.args.vars.now in
    let flavor = option_copied c.args.flavor in
    let words = words_by_options values c.args.on.now (codes "CONFIGURE_ON") in
    let found = c.push_words_by_options.new.found.items in
    let all : with_words c.in_ok-all.all found ≡ configure_for values flavor c.args.on.now =
    ap (λ commands. with_words commands found) c.in_ok-all.ensures
    ∙ ap (with_words (commands_for values flavor (codes "DO_CONFIGURE"))) (c.in_ok-push_words_by_options.ensures ∙ ap (λ x. x ++ words) c.new-words.ensures.items)
    in subst (λ says. IfOk c.with_words.result (λ commands. commands ≡ says)) all c.with_words.ensures
