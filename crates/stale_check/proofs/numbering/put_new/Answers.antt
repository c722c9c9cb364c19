use Rattle.std.proofs.Common.{sym, ◌∙◌}
use Rattle.tree_index.proofs.Numbered.{found_is, gains_put, gains_kept}
use Rattle.stale_check.proofs.numbering.put_new.Goals as goal

pub returns-then-is_some : goal.returns-then-is_some
returns-then-is_some c =
    gains_kept c.args.numbers.now c.args.name c.args.number (sym (found_is c.get.result _ c.get.ensures) ∙ sym c.is_some.ensures ∙ c.if-is_some.true)

pub returns : goal.returns
returns c =
    gains_put c.args.numbers.now c.insert.new.self c.args.name c.args.number (sym (found_is c.get.result _ c.get.ensures) ∙ sym c.is_some.ensures ∙ c.if-is_some.false)
    c.in_ok-insert.ensures.ok
