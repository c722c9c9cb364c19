use Rattle.std.proofs.Common.{◌≡◌, ◌<◌, ◌-◌, ◌++◌, length, slice_index}
use Rattle.loop_report.specs.Walks.{walk, before, round}
use Rattle.loop_report.proofs.walking.once_round.Given as goal

abbrev pub invariant-loop : goal.invariant-loop
invariant-loop l = record {
  below : l.at < length l.steps;
  rest : l.nodes.items ++ before l.from (walk (slice_index l.steps) (length l.steps - l.counter) l.at) ≡ round (slice_index l.steps) (length l.steps) l.from;
}
