use Rattle.std.proofs.Common.{◌≡◌, ◌<◌, ◌-◌, ℕ, [], length, get_or, arith, refl, ap, sym, subst, ◌∙◌}
use Rattle.std.specs.Prelude.{◌==◌}
use Rattle.std.specs.Prelude.{Result, Ok, Err, IsOk, OnOk}
use Rattle.std.specs.BinaryHeap.{heap_items, heap_capacity}
use Rattle.std.proofs.lemmas.Bool.{true≢false, ne_eqb, and_left, and_right}
use Rattle.std.proofs.lemmas.List.{get_or_read}
use Rattle.bucket_queue.specs.QueueView.{is_free, mark_at}
use Rattle.dep_graph.specs.Graphs.{depends_at, targets}
use Rattle.bucket_queue.specs.Inner.{IsQueue}
use Rattle.bucket_queue.proofs.Steps.{no_edge, next_waits, next_room, next_out, next_in, all_past}
use Rattle.bucket_queue.proofs.close.close_all.Goals as goal
use Rattle.bucket_queue.proofs.close.close_all.Goals.{then-is_free+then-left-eq0, else-is_free, else-is_free-via-then-is_free+else-left-eq0, else-is_free-via-else-is_free}

pub loop-edge-init : goal.loop-edge-init
loop-edge-init c =
    let within : c.args.node < length c.args.dependents.now = (let n : c.args.node < length c.args.graph.now.value = c.requires.node in
    let s : length c.args.dependents.now ≡ length c.args.graph.now.value = c.requires.queue.turned_size in omega arith) in
    let is : depends_at c.args.dependents.now c.args.node ≡ targets c.as_slice-edge-items.result.now =
    ap targets (sym (c.as_slice-edge-items.ensures ∙ get_or_read c.args.dependents.now c.args.node c.index-dependents-node.result within c.index-dependents-node.is [])) in
    subst (λ rest. IsQueue (length c.args.graph.now.value) c.args.graph.now.value c.args.dependents.now rest c.args.buckets.now c.args.marks.now c.args.missing.now (heap_items c.args.ready.now) (heap_capacity c.args.ready.now))
    is c.requires.queue

pub overflow_sub-left : goal.overflow_sub-left
overflow_sub-left c = next_waits _ _ _ _ _ _ _ _ _ _ c.loop-edge-test.true c.loop-edge.invariant

on_ok : {T E P : Type 0} (r : Result T E) → IsOk r → OnOk r P → P
on_ok (Ok x) k h = h
on_ok {T} {E} {P} (Err e) k h = absurd (true≢false (sym k))

pub loop-edge-preserved : goal.loop-edge-preserved
loop-edge-preserved c =
    let place : ℕ = (get_or c.as_slice-edge-items.result.now c.loop-edge.edge-index no_edge).to in
    elim c.if-is_free.branch [
      | then-is_free+then-left-eq0 w ↦
          rw w.ready-is (let room : length (heap_items c.loop-edge.ready) < heap_capacity c.loop-edge.ready = next_room _ _ _ _ _ _ _ _ _ _ c.loop-edge-test.true c.loop-edge.invariant in
          let ok : IsOk w.push.result = w.push.ensures.succeeds (omega (arith, c.loop-edge.ready.data.ok)) in
          next_in _ _ _ _ _ _ _ _ _ _ c.loop-edge-test.true c.loop-edge.invariant _ _ _ (sym w.if-is_free.ensures) (omega (arith, w.if-left-eq0.true)) refl
          (on_ok w.push.result ok w.push.ensures.permutation) (on_ok w.push.result ok w.push.ensures.heap_order) w.push.ensures.capacity)
      | else-is_free w ↦
          rw w.ready-is (elim w.else-is_free.branch [
            | else-is_free-via-then-is_free+else-left-eq0 v ↦
                next_out _ _ _ _ _ _ _ _ _ _ c.loop-edge-test.true c.loop-edge.invariant
                (and_right (is_free (mark_at c.args.marks.now place)) (get_or c.loop-edge.missing place 0 - 1 == 0) (ne_eqb (get_or c.loop-edge.missing place 0 - 1) 0 v.if-left-eq0.false))
            | else-is_free-via-else-is_free v ↦
                next_out _ _ _ _ _ _ _ _ _ _ c.loop-edge-test.true c.loop-edge.invariant
                (and_left (is_free (mark_at c.args.marks.now place)) (get_or c.loop-edge.missing place 0 - 1 == 0) (sym v.if-is_free.ensures))
          ])
    ]

pub returns : goal.returns
returns c =
    subst (λ rest. IsQueue (length c.args.graph.now.value) c.args.graph.now.value c.args.dependents.now rest c.args.buckets.now c.args.marks.now c.loop-edge.missing (heap_items c.loop-edge.ready) (heap_capacity c.loop-edge.ready))
    (all_past c.as_slice-edge-items.result.now c.loop-edge.edge-index (omega arith)) c.loop-edge.invariant
