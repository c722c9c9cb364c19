use Rattle.std.proofs.Common.{ℕ, List, ap, sym, ◌∙◌}
use Rattle.std.specs.FinMap as finite
use Rattle.run_store.proofs.Firsts.{found_is, gains_put, gains_kept}
use Rattle.run_store.proofs.keeping.put_first.Goals as goal

pub returns-then-is_some : goal.returns-then-is_some
returns-then-is_some c =
    gains_kept c.args.firsts.now c.args.node c.args.made.now (sym (found_is c.get.result _ c.get.ensures) ∙ sym c.is_some.ensures ∙ c.if-is_some.true)

pub returns : goal.returns
returns c =
    gains_put c.args.firsts.now c.args.node c.args.made.now c.insert.new.self (sym (found_is c.get.result _ c.get.ensures) ∙ sym c.is_some.ensures ∙ c.if-is_some.false)
    (c.in_ok-insert.ensures.ok ∙ ap (λ (node : List ℕ). finite.insert c.args.firsts.now node c.in_ok-share.field-0) c.node.view_is
    ∙ ap (finite.insert c.args.firsts.now c.args.node) c.in_ok-share.ensures)
