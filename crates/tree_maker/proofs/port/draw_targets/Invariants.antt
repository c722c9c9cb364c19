use Rattle.std.proofs.Common.{◌≡◌, ◌+◌, ◌%◌, map}
use Rattle.std.specs.List.{range_with_len}
use Rattle.tree_maker.specs.Draws.{after, draw}
use Rattle.tree_maker.proofs.port.draw_targets.Given as goal

abbrev pub invariant-loop : goal.invariant-loop
invariant-loop l = record {
  targets : l.targets.items ≡ map (λ k. draw (k + 1) l.fn.draws % l.i) (range_with_len 0 l.counter);
  state : l.draws ≡ after l.counter l.fn.draws;
}
