use Rattle.std.proofs.Common.{◌≡◌}
use Rattle.std.specs.Prelude.{map}
use Rattle.std.specs.List.{range_with_len}
use Rattle.bucket_queue.specs.QueueView.{first_mark}
use Rattle.bucket_queue.proofs.begin.first_marks.Given as goal

abbrev pub invariant-loop-n : goal.invariant-loop-n
invariant-loop-n l = l.marks.items ≡ map (first_mark l.plan l.kept) (range_with_len 0 l.n)
