use Rattle.std.proofs.Common.{◌<◌, ◌+◌, ◌-◌, length, slice_index, arith}
use Rattle.std.proofs.lemmas.List.Elements.{All-get_or}
use Rattle.std.specs.Fn.{iterate}
use Rattle.loop_report.proofs.Choosing.{step_on}
use Rattle.loop_report.proofs.walking.far_along.Goals as goal

pub loop-preserved : goal.loop-preserved
loop-preserved c = record {
  below = All-get_or (λ n. n < length c.args.steps.now) c.args.steps.now c.loop.at 0 c.loop.invariant.below c.requires.steps;
  place = step_on (slice_index c.args.steps.now) (length c.args.steps.now - c.loop.counter) (length c.args.steps.now - (c.loop.counter + 1)) c.loop.at
      (iterate (slice_index c.args.steps.now) (length c.args.steps.now) c.args.first) (omega arith) c.loop.invariant.place;
}
