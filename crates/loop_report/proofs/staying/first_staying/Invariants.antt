use Rattle.std.proofs.Common.{◌≡◌, false, [], filter, slice_index_or}
use Rattle.std.specs.List.{range_with_len}
use Rattle.loop_report.proofs.staying.first_staying.Given as goal

abbrev pub invariant-loop-n : goal.invariant-loop-n
invariant-loop-n l = filter (λ n. slice_index_or l.stays n false) (range_with_len 0 l.n) ≡ []
