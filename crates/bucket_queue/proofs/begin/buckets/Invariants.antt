use Rattle.std.proofs.Common.{◌≡◌}
use Rattle.std.specs.Prelude.{map}
use Rattle.std.specs.List.{range_with_len}
use Rattle.bulk_model.specs.Order.{bucket}
use Rattle.bucket_queue.proofs.begin.buckets.Given as goal

abbrev pub invariant-loop-n : goal.invariant-loop-n
invariant-loop-n l = l.buckets.items ≡ map (bucket l.plan) (range_with_len 0 l.n)
