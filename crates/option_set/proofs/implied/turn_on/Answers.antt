use Rattle.std.proofs.Common.{◌++◌, ◌∷◌, [], ap, sym, ◌∙◌}
use Rattle.std.specs.FinMap as map
use Rattle.option_set.proofs.Turning.{turn_new, turn_old}
use Rattle.option_set.proofs.implied.turn_on.Goals as goal
use Rattle.option_set.proofs.implied.turn_on.Goals.{then-not-holds+in_ok-copy+in_ok-insert+in_ok-copy-2+in_ok-push, else-not-holds}

pub loop-name-preserved : goal.loop-name-preserved
loop-name-preserved c =
    let names = c.args.names.now in
    let before = c.args.on.now in
    elim c.if-not-holds.branch [
      | then-not-holds+in_ok-copy+in_ok-insert+in_ok-copy-2+in_ok-push w ↦
          turn_new names c.loop-name.name-index c.name-item.result c.loop-name-test.true c.name-item.is before c.loop-name.on c.if-not-holds.on c.loop-name.new c.if-not-holds.new c.loop-name.invariant
          (sym c.holds.ensures ∙ w.if-not-holds.true)
          (w.on-is ∙ w.in_ok-insert.ensures.ok ∙ ap (λ k. map.insert c.loop-name.on k tt) w.in_ok-copy.ensures)
          (w.new-is ∙ w.in_ok-push.ensures.ok ∙ ap (λ k. c.loop-name.new ++ k ∷ []) w.in_ok-copy-2.ensures)
      | else-not-holds w ↦
          turn_old names c.loop-name.name-index c.name-item.result c.loop-name-test.true c.name-item.is before c.loop-name.on c.if-not-holds.on c.loop-name.new c.if-not-holds.new c.loop-name.invariant
          (sym c.holds.ensures ∙ w.if-not-holds.false) w.on-is w.new-is
    ]
