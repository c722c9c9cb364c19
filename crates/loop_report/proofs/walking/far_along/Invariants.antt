use Rattle.std.proofs.Common.{◌≡◌, ◌<◌, ◌-◌, length, slice_index}
use Rattle.std.specs.Fn.{iterate}
use Rattle.loop_report.proofs.walking.far_along.Given as goal

abbrev pub invariant-loop : goal.invariant-loop
invariant-loop l = record {
  below : l.at < length l.steps;
  place : iterate (slice_index l.steps) (length l.steps - l.counter) l.at ≡ iterate (slice_index l.steps) (length l.steps) l.fn.first;
}
