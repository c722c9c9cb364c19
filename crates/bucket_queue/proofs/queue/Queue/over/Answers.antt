use Rattle.std.proofs.Common.{◌≡◌, true, false, length, arith, ap, sym, ◌∙◌}
use Rattle.std.specs.Prelude.{not, ◌&&◌, ◌==◌, is_some}
use Rattle.std.specs.List.{list_any}
use Rattle.std.specs.BinaryHeap.{heap_items, heap_len}
use Rattle.bucket_queue.specs.QueueView.{QueueView, is_taken, is_clear, is_ready, best_below, next_of}
use Rattle.bucket_queue.proofs.Best.{none_best}
use Rattle.bucket_queue.proofs.Counting.{none_counted}
use Rattle.bucket_queue.proofs.Steps.{none_where_empty}
use Rattle.bucket_queue.proofs.queue.Queue.over.Goals as goal
use Rattle.bucket_queue.proofs.queue.Queue.over.Goals.{then-self, else-self}

where_halted : (v : QueueView) → v.halted ≡ true → not (is_some (next_of v)) ≡ true
where_halted v h = ap (λ o. not (is_some o)) (none_best (is_ready v) v.buckets (length v.marks) (λ n l. ap (λ b. not b && is_clear v.edges v.marks n) h))

where_going : (v : QueueView) → v.halted ≡ false → not (is_some (next_of v)) ≡ not (is_some (best_below (is_clear v.edges v.marks) v.buckets (length v.marks)))
where_going v h = ap (λ b. not (is_some (best_below (λ n. not b && is_clear v.edges v.marks n) v.buckets (length v.marks)))) h

pub returns-then-is_empty : goal.returns-then-is_empty
returns-then-is_empty c =
    let ready : c.if-self.value ≡ not (is_some (next_of c.args.self.now)) = elim c.if-self.branch [
      | then-self w ↦ w.value-is ∙ w.if-self.true ∙ sym (where_halted c.args.self.now (sym (ap (λ v. v.halted) c.self.view_is) ∙ w.if-self.true))
      | else-self w ↦
          w.value-is ∙ w.is_empty.ensures ∙ ap (λ t. t == 0) (let e : heap_len c.self.inside.ready ≡ length (heap_items c.self.inside.ready) = omega (arith, c.self.inside.ready.data.ok) in e)
          ∙ sym (where_going c.args.self.now (sym (ap (λ v. v.halted) c.self.view_is) ∙ w.if-self.false)
          ∙ ap (λ v. not (is_some (best_below (is_clear v.edges v.marks) v.buckets (length v.marks)))) (sym c.self.view_is) ∙ none_where_empty _ _ _ _ _ _ (heap_items c.self.inside.ready) _ c.self.invariant.0)
    ] in
    ap (λ t. t == 0) c.self.invariant.1 ∙ sym (none_counted is_taken c.self.inside.marks.items) ∙ ap (λ v. not (list_any is_taken v.marks)) c.self.view_is
    ∙ ap (λ x. x && not (list_any is_taken c.args.self.now.marks)) (sym c.if-is_empty.true ∙ ready)

pub returns-else-is_empty : goal.returns-else-is_empty
returns-else-is_empty c =
    let ready : c.if-self.value ≡ not (is_some (next_of c.args.self.now)) = elim c.if-self.branch [
      | then-self w ↦ w.value-is ∙ w.if-self.true ∙ sym (where_halted c.args.self.now (sym (ap (λ v. v.halted) c.self.view_is) ∙ w.if-self.true))
      | else-self w ↦
          w.value-is ∙ w.is_empty.ensures ∙ ap (λ t. t == 0) (let e : heap_len c.self.inside.ready ≡ length (heap_items c.self.inside.ready) = omega (arith, c.self.inside.ready.data.ok) in e)
          ∙ sym (where_going c.args.self.now (sym (ap (λ v. v.halted) c.self.view_is) ∙ w.if-self.false)
          ∙ ap (λ v. not (is_some (best_below (is_clear v.edges v.marks) v.buckets (length v.marks)))) (sym c.self.view_is) ∙ none_where_empty _ _ _ _ _ _ (heap_items c.self.inside.ready) _ c.self.invariant.0)
    ] in
    c.if-is_empty.false ∙ ap (λ x. x && not (list_any is_taken c.args.self.now.marks)) (sym c.if-is_empty.false ∙ ready)
