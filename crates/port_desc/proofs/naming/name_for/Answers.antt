use Rattle.std.proofs.Common.{◌≡◌, ◌≢◌, Ok, Err, IfOk, IfErr, sym, subst, ◌∙◌}
use Rattle.std.specs.Option.{option_copied}
use Rattle.std.specs.FinMap as map
use Rattle.port_desc.specs.declared.fault.DescError.TheVariants.{NoMemory}
use Rattle.port_desc.proofs.Named.{name_missing, name_known}
use Rattle.port_desc.proofs.naming.name_for.Goals as goal

pub returns-in-Some-clause-refused : goal.returns-in-Some-clause-refused
returns-in-Some-clause-refused c = λ some. name_missing (map.get c.args.vars.now) (option_copied c.args.flavor) c.in-Some.name (sym c.in_ok-name.ensures ∙ c.in-Some.is)

pub returns-clause-ok : goal.returns-clause-ok
returns-clause-ok c =
    subst (λ says. IfOk c.named_for.result (λ name. says ≡ Ok name))
    (sym (name_known (map.get c.args.vars.now) (option_copied c.args.flavor) (sym c.in_ok-name.ensures ∙ c.in_default.is))) c.named_for.ensures.ok

pub returns-clause-refused : goal.returns-clause-refused
returns-clause-refused c =
    subst (λ says. IfErr c.named_for.result (λ e. e ≢ NoMemory → says ≡ Err e))
    (sym (name_known (map.get c.args.vars.now) (option_copied c.args.flavor) (sym c.in_ok-name.ensures ∙ c.in_default.is))) c.named_for.ensures.refused
