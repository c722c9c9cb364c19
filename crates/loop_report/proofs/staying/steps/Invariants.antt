use Rattle.std.proofs.Common.{◌≡◌, false, map, slice_index_or}
use Rattle.std.specs.List.{range_with_len}
use Rattle.loop_report.specs.Loops.{next_among}
use Rattle.loop_report.proofs.staying.steps.Given as goal

abbrev pub invariant-loop-n : goal.invariant-loop-n
invariant-loop-n l = l.steps.items ≡ map (next_among (λ d. slice_index_or l.fn.stays d false) l.fn.graph) (range_with_len 0 l.n)
