use Rattle.std.proofs.Common.{length, drop}
use Rattle.std.specs.BinaryHeap.{heap_items, heap_capacity}
use Rattle.dep_graph.specs.Graphs.{targets}
use Rattle.bucket_queue.specs.Inner.{IsQueue}
use Rattle.bucket_queue.proofs.close.close_all.Given as goal

abbrev pub invariant-loop-edge : goal.invariant-loop-edge
invariant-loop-edge l =
    IsQueue (length l.graph.value) l.graph.value l.dependents
    (drop l.edge-index (targets l.edge-items)) l.buckets l.marks l.missing (heap_items l.ready)
    (heap_capacity l.ready)
