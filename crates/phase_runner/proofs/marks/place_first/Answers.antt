use Rattle.std.proofs.Common.{◌∙◌, sym}
use Rattle.phase_runner.proofs.Placing.{found_is, gains_put, gains_kept}
use Rattle.phase_runner.proofs.marks.place_first.Goals as goal

pub returns-then-is_some : goal.returns-then-is_some
returns-then-is_some c =
    gains_kept c.args.places.now c.args.name c.args.at (sym (found_is c.get.result _ c.get.ensures) ∙ sym c.is_some.ensures ∙ c.if-is_some.true)

pub returns : goal.returns
returns c =
    gains_put c.args.places.now c.insert.new.self c.args.name c.args.at (sym (found_is c.get.result _ c.get.ensures) ∙ sym c.is_some.ensures ∙ c.if-is_some.false)
    c.in_ok-insert.ensures.ok
