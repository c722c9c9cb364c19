use Rattle.std.proofs.Common.{◌≡◌, ◌<◌, [], length, get_or, arith, ap, sym, subst, ◌∙◌}
use Rattle.std.specs.Prelude.{◌==◌}
use Rattle.std.proofs.lemmas.Bool.{and_left, and_right, ne_eqb}
use Rattle.std.proofs.lemmas.List.{get_or_read}
use Rattle.bucket_queue.specs.declared.mark.Mark.TheVariants.{Ignored}
use Rattle.bucket_queue.specs.QueueView.{is_free, mark_at}
use Rattle.dep_graph.specs.Graphs.{depends_at, targets}
use Rattle.bucket_queue.specs.Inner.{count_missing}
use Rattle.bucket_queue.proofs.Begun.{begun_out, begun_in}
use Rattle.bucket_queue.proofs.queue.begun.Goals as goal
use Rattle.bucket_queue.proofs.queue.begun.Goals.{then-is_free+then-left-eq0+in_ok-push-2, else-is_free, else-is_free-via-then-is_free+else-left-eq0, else-is_free-via-else-is_free}

pub loop-n-preserved : goal.loop-n-preserved
loop-n-preserved c =
    let within : c.loop-n.n < length c.args.graph.now = omega (arith, c.loop-n-test.true, c.len-count.ensures) in
    let here : c.loop-n.n < length c.args.marks.items = (let s : length c.args.marks.items ≡ length c.args.graph.now = c.requires.marks in omega arith) in
    let left_is : c.missing_of-left.result ≡ count_missing c.args.marks.items (depends_at c.args.graph.now c.loop-n.n) =
    c.missing_of-left.ensures ∙ ap (λ m. count_missing m (targets c.as_slice-in-loop-n.result.now)) c.as_slice-in-loop-n-2.ensures.value
    ∙ ap (λ edges. count_missing c.args.marks.items (targets edges))
    (c.as_slice-in-loop-n.ensures
    ∙ get_or_read c.as_slice.result.now c.loop-n.n c.index-as_slice-n.result (subst (λ g. c.loop-n.n < length g) (sym c.as_slice.ensures) within) c.index-as_slice-n.is []
    ∙ ap (λ g. get_or g c.loop-n.n []) c.as_slice.ensures) in
    let free_is : c.is_free.result ≡ is_free (mark_at c.args.marks.items c.loop-n.n) = c.is_free.ensures ∙ ap is_free (get_or_read c.args.marks.items c.loop-n.n c.index.result.now here c.index.ensures Ignored) in
    elim c.if-is_free.branch [
      | then-is_free+then-left-eq0+in_ok-push-2 w ↦ record {
        begun = rw (w.ready-is, c.in_ok-push.ensures.items)
            (begun_in _ _ _ _ _ _ c.loop-n.invariant.begun c.missing_of-left.result left_is w.index-then-left-eq0.result.now _ (sym free_is ∙ w.if-is_free.true) w.if-left-eq0.true
            (get_or_read c.args.buckets.items c.loop-n.n w.index-then-left-eq0.result.now (let s : length c.args.buckets.items ≡ length c.args.graph.now = c.requires.buckets in omega arith) w.index-then-left-eq0.ensures 0)
            w.in_ok-push-2.ensures.permutation w.in_ok-push-2.ensures.heap_order);
        room = rw w.ready-is (omega (arith, w.in_ok-push-2.ensures.capacity, c.loop-n.invariant.room));
      }
      | else-is_free w ↦ record {
        begun = rw (w.ready-is, c.in_ok-push.ensures.items) (elim w.else-is_free.branch [
          | else-is_free-via-then-is_free+else-left-eq0 v ↦
              begun_out _ _ _ _ _ _ c.loop-n.invariant.begun c.missing_of-left.result left_is
              (and_right (is_free (mark_at c.args.marks.items c.loop-n.n)) (c.missing_of-left.result == 0) (ne_eqb c.missing_of-left.result 0 v.if-left-eq0.false))
          | else-is_free-via-else-is_free v ↦
              begun_out _ _ _ _ _ _ c.loop-n.invariant.begun c.missing_of-left.result left_is
              (and_left (is_free (mark_at c.args.marks.items c.loop-n.n)) (c.missing_of-left.result == 0) (sym free_is ∙ v.if-is_free.false))
        ]);
        room = rw w.ready-is c.loop-n.invariant.room;
      }
    ]
