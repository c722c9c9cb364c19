use Rattle.std.proofs.Common.{◌≡◌, ◌++◌, length, get_or, None}
use Rattle.std.specs.Prelude.{map}
use Rattle.std.specs.List.{range_with_len}
use Rattle.std.specs.Vec.Iter.{into_iter_items}
use Rattle.bulk_core.specs.Turns.{settled_by}
use Rattle.bulk_core.proofs.settle.settle_all.Given as goal

abbrev pub invariant-loop-outcome : goal.invariant-loop-outcome
invariant-loop-outcome l = record {
  place : l.n ≡ length l.yielded;
  rest : l.yielded ++ into_iter_items l.outcome-iterator ≡ l.fn.outcomes.items;
  statuses : l.statuses ≡ map (λ k. settled_by l.plan l.kept k (get_or l.yielded k None)) (range_with_len 0 (length l.yielded));
}
