use Rattle.std.proofs.Common.{◌≤◌, length}
use Rattle.std.specs.BinaryHeap.{heap_items, heap_capacity}
use Rattle.bucket_queue.specs.Inner.{IsBegun}
use Rattle.bucket_queue.proofs.queue.begun.Given as goal

abbrev pub invariant-loop-n : goal.invariant-loop-n
invariant-loop-n l = record {
  begun : IsBegun l.graph l.buckets.items l.marks.items l.n l.missing.items (heap_items l.ready);
  room : length l.graph ≤ heap_capacity l.ready;
}
