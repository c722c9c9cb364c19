use Rattle.std.proofs.Common.{◌≡◌, ◌<◌, length, get_or, refl, ap, sym, subst, ◌∙◌, arith}
use Rattle.std.proofs.lemmas.List.{get_or-set_same}
use Rattle.bulk_model.specs.PlanFacts.{IsPlan}
use Rattle.bucket_queue.specs.declared.mark.Mark.TheVariants.{Ignored, Taken}
use Rattle.bucket_queue.specs.QueueView.{is_taken, is_running}
use Rattle.bucket_queue.proofs.Rest.{given_is, turned, turned_size, turned_less, so_far_more, so_far_all}
use Rattle.bucket_queue.proofs.orders.taken.Goals as goal

pub bounds-well-n : goal.bounds-well-n
bounds-well-n c =
    let node : c.in-Some.n < length c.loop-n.queue.marks = (given_is c.loop-n.queue c.in-Some.n (sym c.in-Some.ensures.next)).node in
    let size : length c.loop-n.queue.marks ≡ length c.args.plan.now.jobs = c.loop-n.invariant.size in
    let all : length c.args.well.now ≡ length c.args.plan.now.jobs = c.requires in
    omega arith

pub end-requires : goal.end-requires
end-requires c =
    ap (λ q. is_running q c.in-Some.n) c.in-Some.ensures.queue
    ∙ ap is_taken (get_or-set_same c.loop-n.queue.marks c.in-Some.n Taken Ignored (given_is c.loop-n.queue c.in-Some.n (sym c.in-Some.ensures.next)).node)

pub loop-n-smaller : goal.loop-n-smaller
loop-n-smaller c =
    omega (arith, turned_less c.loop-n.queue c.next.new.self c.end.new.queue c.in-Some.n (get_or c.args.well.now c.in-Some.n _) (sym c.in-Some.ensures.next) c.in-Some.ensures.queue c.end.ensures)

pub loop-n-preserved : goal.loop-n-preserved
loop-n-preserved c = record {
  size = turned_size c.loop-n.queue c.next.new.self c.end.new.queue c.in-Some.n _ (sym c.in-Some.ensures.next) c.in-Some.ensures.queue c.end.ensures ∙ c.loop-n.invariant.size;
  so_far = λ statuses is results tell.
      so_far_more c.args.plan.now is c.args.kept.now statuses results c.loop-n.queue c.end.new.queue c.in-Some.n _ (sym c.in-Some.ensures.next)
      (turned c.loop-n.queue c.next.new.self c.end.new.queue c.in-Some.n _ (sym c.in-Some.ensures.next) c.in-Some.ensures.queue c.end.ensures)
      (turned_less c.loop-n.queue c.next.new.self c.end.new.queue c.in-Some.n _ (sym c.in-Some.ensures.next) c.in-Some.ensures.queue c.end.ensures)
      c.loop-n.numbers c.push.new.self c.in_ok-push.ensures.ok c.args.well.now tell refl (c.loop-n.invariant.so_far statuses is results tell);
}

pub returns : goal.returns
returns c = λ statuses results tell.
    let is : IsPlan c.args.plan.now = subst IsPlan c.plan.view_is c.plan.invariant in
    so_far_all c.args.plan.now is c.args.kept.now statuses results c.loop-n.queue c.loop-n.numbers (sym c.in_default.ensures.next)
    (c.loop-n.invariant.so_far statuses is results tell)
