use Rattle.std.proofs.Common.{refl, ap, sym, subst, ◌∙◌}
use Rattle.std.proofs.lemmas.List.{get_or-set_same}
use Rattle.bulk_model.specs.PlanFacts.{IsPlan}
use Rattle.bucket_queue.specs.declared.mark.Mark.TheVariants.{Ignored, Taken}
use Rattle.bucket_queue.specs.QueueView.{is_taken, is_running}
use Rattle.bucket_queue.proofs.Rest.{given_is}
use Rattle.bulk_core.proofs.Running.{next, began_now, began_err, turn_more, turn_less}
use Rattle.bulk_core.proofs.Ending.{began_none, begin, is_ended}
use Rattle.bulk_core.proofs.turns.build_left.Goals as goal

pub returns-in_err-queue-clause-begun : goal.returns-in_err-queue-clause-begun
returns-in_err-queue-clause-begun g c = began_none c.args.plan.now c.args.kept.now c.args.outcomes.now.items (g.B.Baking.begun c.args.baker.now)

pub returns-in_err-collector-clause-begun : goal.returns-in_err-collector-clause-begun
returns-in_err-collector-clause-begun g c = began_none c.args.plan.now c.args.kept.now c.args.outcomes.now.items (g.B.Baking.begun c.args.baker.now)

pub loop-n-init : goal.loop-n-init
loop-n-init g c = record {
  run = begin g.B.Ways.Ways.tells g.B.Ways.Ways.runs c.args.plan.now c.args.kept.now c.args.outcomes.now.items c.requires.given (g.B.Baking.begun c.args.baker.now) c.in_ok-queue.queue c.in_ok-queue.ensures;
  collector = c.in_ok-collector.ensures;
  quiet = refl;
}

pub turn-requires-clause-node : goal.turn-requires-clause-node
turn-requires-clause-node g c =
    (next g.B.Ways.Ways.tells g.B.Ways.Ways.runs c.args.plan.now c.args.kept.now c.args.outcomes.now.items (g.B.Baking.begun c.args.baker.now) (subst IsPlan c.plan.view_is c.plan.invariant) c.requires.fit
    c.loop-n.outcomes.items c.loop-n.queue (g.B.Baking.begun c.loop-n.baker) c.loop-n.invariant.run c.in-Some.n c.in-Some.ensures.next).node

pub returns-in_err-well-clause-begun : goal.returns-in_err-well-clause-begun
returns-in_err-well-clause-begun g c =
    began_err g.B.Ways.Ways.tells g.B.Ways.Ways.runs c.args.plan.now c.args.kept.now c.args.outcomes.now.items (g.B.Baking.begun c.args.baker.now) (subst IsPlan c.plan.view_is c.plan.invariant) c.requires.fit
    c.loop-n.outcomes.items c.loop-n.queue (g.B.Baking.begun c.loop-n.baker) c.loop-n.invariant.run c.in-Some.n c.in-Some.ensures.next
    c.in_err-well.ensures.new (g.B.Baking.begun c.turn.new.baker) c.in_err-well.ensures.begun_err

pub end-requires : goal.end-requires
end-requires g c =
    ap (λ q. is_running q c.in-Some.n) c.in-Some.ensures.queue
    ∙ ap is_taken (get_or-set_same c.loop-n.queue.marks c.in-Some.n Taken Ignored (given_is c.loop-n.queue c.in-Some.n (sym c.in-Some.ensures.next)).node)

pub loop-n-smaller : goal.loop-n-smaller
loop-n-smaller g c =
    turn_less g.B.Ways.Ways.tells g.B.Ways.Ways.runs c.args.plan.now c.args.kept.now c.args.outcomes.now.items (g.B.Baking.begun c.args.baker.now) (subst IsPlan c.plan.view_is c.plan.invariant) c.requires.fit
    c.loop-n.outcomes.items c.loop-n.queue (g.B.Baking.begun c.loop-n.baker) c.loop-n.invariant.run c.in-Some.n c.in-Some.ensures.next
    c.turn.new.outcomes.items (g.B.Baking.begun c.turn.new.baker) c.next.new.self c.end.new.queue c.in_ok-well.well c.in-Some.ensures.queue c.end.ensures c.in_ok-well.ensures.turn

pub loop-n-preserved : goal.loop-n-preserved
loop-n-preserved g c = record {
  run = turn_more g.B.Ways.Ways.tells g.B.Ways.Ways.runs c.args.plan.now c.args.kept.now c.args.outcomes.now.items (g.B.Baking.begun c.args.baker.now) (subst IsPlan c.plan.view_is c.plan.invariant) c.requires.fit
      c.loop-n.outcomes.items c.loop-n.queue (g.B.Baking.begun c.loop-n.baker) c.loop-n.invariant.run c.in-Some.n c.in-Some.ensures.next
      c.turn.new.outcomes.items (g.B.Baking.begun c.turn.new.baker) c.next.new.self c.end.new.queue c.in_ok-well.well c.in-Some.ensures.queue c.end.ensures c.in_ok-well.ensures.turn;
  collector = c.in_ok-well.ensures.collector ∙ c.loop-n.invariant.collector;
  quiet = c.in_ok-well.ensures.cause.kept refl ∙ c.loop-n.invariant.quiet;
}

pub returns-clause-ended : goal.returns-clause-ended
returns-clause-ended g c =
    is_ended g.B.Ways.Ways.tells g.B.Ways.Ways.runs c.args.plan.now c.args.kept.now c.args.outcomes.now.items c.requires.given (g.B.Baking.begun c.args.baker.now) (subst IsPlan c.plan.view_is c.plan.invariant)
    c.loop-n.outcomes.items c.loop-n.queue (g.B.Baking.begun c.loop-n.baker) c.loop-n.invariant.run c.in_default.ensures.next

pub returns-clause-begun : goal.returns-clause-begun
returns-clause-begun g c =
    began_now g.B.Ways.Ways.tells g.B.Ways.Ways.runs c.args.plan.now c.args.kept.now c.args.outcomes.now.items (g.B.Baking.begun c.args.baker.now) (subst IsPlan c.plan.view_is c.plan.invariant) c.requires.fit
    c.loop-n.outcomes.items c.loop-n.queue (g.B.Baking.begun c.loop-n.baker) c.loop-n.invariant.run
