use Rattle.std.proofs.Common.{◌≡◌, ap, ◌∙◌, subst}
use Rattle.std.specs.Prelude.{filter, IfOk}
use Rattle.std.specs.FinMap as map
use Rattle.option_set.specs.Implied.{names_on}
use Rattle.option_set.proofs.Choosing.{on_is}
use Rattle.option_set.proofs.implied.options_on.Goals as goal

pub returns : goal.returns
returns c =
    on_is c.args.vars.now c.args.options.now c.args.layers.now c.in_ok-default.default c.in_ok-asked.asked c.as_slice-2.result.now c.len.result c.in_ok-on.on c.held.result
    c.in_ok-default.ensures c.in_ok-asked.ensures (c.as_slice-2.ensures ∙ c.in_ok-begun.ensures ∙ ap names_on c.as_slice.ensures) c.len.ensures c.in_ok-on.ensures
    (subst (λ names. IfOk c.held.result (λ held. held ≡ filter (map.contains_key c.in_ok-on.on) names)) c.as_slice-3.ensures c.held.ensures)
