use Rattle.std.proofs.Common.{◌≡◌, ◌<◌, length, true, refl, ap, sym, ◌∙◌}
use Rattle.bucket_queue.specs.declared.mark.Mark.TheVariants.{Bad}
use Rattle.bucket_queue.specs.QueueView.{mark_at, is_taken}
use Rattle.bucket_queue.proofs.Counting.{taken_is, running_less}
use Rattle.bucket_queue.proofs.Steps.{running_within, marked_bad}
use Rattle.bucket_queue.proofs.queue.Queue.bad.Goals as goal

pub invariant_of-self : goal.invariant_of-self
invariant_of-self c =
    let taken : is_taken (mark_at c.self.inside.marks.items c.args.n) ≡ true =
    ap (λ v. is_taken (mark_at v.marks c.args.n)) c.self.view_is ∙ sym c.is_running.ensures ∙ c.if-not-is_running.false in
    let within : c.args.n < length c.self.inside.marks.items = running_within c.self.inside.marks.items c.args.n taken in (
      marked_bad _ _ _ _ _ _ _ _ c.args.n within (taken_is (mark_at c.self.inside.marks.items c.args.n) taken) c.self.invariant.0,
      running_less c.self.inside.marks.items c.args.n c.self.inside.running Bad within taken refl c.self.invariant.1,
    )
