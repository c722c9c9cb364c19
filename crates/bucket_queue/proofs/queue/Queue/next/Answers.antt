use Rattle.std.proofs.Common.{◌≡◌, true, false, List, [], ◌∷◌, None, length, refl, arith, ap, sym, ◌∙◌}
use Rattle.std.specs.Prelude.{not, ◌&&◌}
use Rattle.std.specs.BinaryHeap.{heap_items}
use Rattle.bucket_queue.specs.QueueView.{QueueView, is_clear, is_ready, best_below, next_of}
use Rattle.bucket_queue.proofs.Counting.{running_more}
use Rattle.bucket_queue.proofs.Best.{none_best}
use Rattle.bucket_queue.proofs.Steps.{taken_out, marked_within, was_free, popped_best, none_popped}
use Rattle.bucket_queue.proofs.queue.Queue.next.Goals as goal

halted_none : (v : QueueView) → v.halted ≡ true → next_of v ≡ None
halted_none v h = none_best (is_ready v) v.buckets (length v.marks) (λ n l. ap (λ b. not b && is_clear v.edges v.marks n) h)

going_on : (v : QueueView) → v.halted ≡ false → next_of v ≡ best_below (is_clear v.edges v.marks) v.buckets (length v.marks)
going_on v h = ap (λ b. best_below (λ n. not b && is_clear v.edges v.marks n) v.buckets (length v.marks)) h

pub returns-then-self-clause-next : goal.returns-then-self-clause-next
returns-then-self-clause-next c = sym (halted_none c.args.self.now (sym (ap (λ v. v.halted) c.self.view_is) ∙ c.if-self.true))

pub invariant_of-self : goal.invariant_of-self
invariant_of-self c =
    rw c.pop.ensures.capacity (
      taken_out _ _ _ _ _ _ _ _ _ (c.in-Some.field-0-0, c.in-Some.field-0-1) c.in-Some.ensures.permutation c.self.invariant.0 (c.in-Some.ensures.heap_order c.self.invariant.0.heap).0,
      running_more c.self.inside.marks.items c.in-Some.field-0-1.0 c.self.inside.running
          (marked_within _ _ _ _ _ _ _ _ _ (c.in-Some.field-0-0, c.in-Some.field-0-1) c.in-Some.ensures.permutation c.self.invariant.0)
          (was_free _ _ _ _ _ _ _ _ _ (c.in-Some.field-0-0, c.in-Some.field-0-1) c.in-Some.ensures.permutation c.self.invariant.0) c.self.invariant.1,
    )

pub returns-in-Some-clause-next : goal.returns-in-Some-clause-next
returns-in-Some-clause-next c =
    sym (going_on c.args.self.now (sym (ap (λ v. v.halted) c.self.view_is) ∙ c.if-self.false)
    ∙ ap (λ v. best_below (is_clear v.edges v.marks) v.buckets (length v.marks)) (sym c.self.view_is)
    ∙ popped_best _ _ _ _ _ _ _ _ _ (c.in-Some.field-0-0, c.in-Some.field-0-1) c.in-Some.ensures.permutation c.self.invariant.0 (c.in-Some.ensures.heap_order c.self.invariant.0.heap).1)

empty : {X : Type 0} (xs : List X) → length xs ≡ 0 → xs ≡ []
empty [] e = refl
empty (x ∷ xs) e = absurd (omega arith)

pub returns-in-None-clause-next : goal.returns-in-None-clause-next
returns-in-None-clause-next c =
    let none : length (heap_items c.self.inside.ready) ≡ 0 = omega (arith, c.in-None.ensures.none, c.self.inside.ready.data.ok) in
    sym (going_on c.args.self.now (sym (ap (λ v. v.halted) c.self.view_is) ∙ c.if-self.false)
    ∙ ap (λ v. best_below (is_clear v.edges v.marks) v.buckets (length v.marks)) (sym c.self.view_is)
    ∙ none_popped _ _ _ _ _ _ _ _ (empty (heap_items c.self.inside.ready) none) c.self.invariant.0)
