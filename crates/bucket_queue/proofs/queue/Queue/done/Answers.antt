use Rattle.std.proofs.Common.{◌≡◌, true, ap, sym, ◌∙◌}
use Rattle.bucket_queue.specs.QueueView.{mark_at, is_taken}
use Rattle.bucket_queue.proofs.Counting.{taken_is}
use Rattle.bucket_queue.proofs.Steps.{running_within, marked_done}
use Rattle.bucket_queue.proofs.queue.Queue.done.Goals as goal

pub close_all-requires-clause-queue : goal.close_all-requires-clause-queue
close_all-requires-clause-queue c =
    let taken : is_taken (mark_at c.self.inside.marks.items c.args.n) ≡ true =
    ap (λ v. is_taken (mark_at v.marks c.args.n)) c.self.view_is ∙ sym c.is_running.ensures ∙ c.if-not-is_running.false in
    rw (c.as_slice.ensures, c.edges.ensures.value, c.as_slice-2.ensures.value, c.as_slice-3.ensures.value, c.as_mut_slice.ensures.value)
    (marked_done _ _ _ _ _ _ _ _ c.args.n (running_within c.self.inside.marks.items c.args.n taken) (taken_is (mark_at c.self.inside.marks.items c.args.n) taken) c.self.invariant.0)
