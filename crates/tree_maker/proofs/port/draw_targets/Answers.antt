use Rattle.std.proofs.Common.{ap, sym, ◌∙◌, ◌%◌}
use Rattle.tree_maker.specs.Draws.{next}
use Rattle.tree_maker.proofs.Drawing.{after_one, targets_more}
use Rattle.tree_maker.proofs.port.draw_targets.Goals as goal

pub loop-preserved : goal.loop-preserved
loop-preserved c = record {
  targets = targets_more c.args.draws.now c.args.i c.loop.counter c.loop.targets.items _ _ c.loop.draws c.draw-drawn.result
      c.loop.invariant.targets c.in_ok-push.ensures.items (ap (λ m. c.draw-drawn.result % m) c.from.ensures)
      c.draw-drawn.ensures.number c.loop.invariant.state;
  state = c.draw-drawn.ensures.state ∙ ap next c.loop.invariant.state ∙ sym (after_one c.loop.counter c.args.draws.now);
}
