use Rattle.std.proofs.Common.{◌∷◌, [], ◌++◌, arith, ap, sym, ◌∙◌, append_assoc}
use Rattle.std.proofs.lemmas.List.{length_push}
use Rattle.std.specs.Vec.Iter.{into_iter_items}
use Rattle.bulk_core.specs.Turns.{settled_by}
use Rattle.bulk_core.proofs.Lists.{settled_more}
use Rattle.bulk_core.proofs.settle.settle_all.Goals as goal

pub loop-outcome-preserved : goal.loop-outcome-preserved
loop-outcome-preserved c = record {
  place = omega (arith, length_push c.loop-outcome.yielded c.in-Some.outcome);
  rest = append_assoc c.loop-outcome.yielded (c.in-Some.outcome ∷ []) (into_iter_items c.next.new.self) ∙ ap (λ rest. c.loop-outcome.yielded ++ rest) (sym c.in-Some.ensures.steps.0) ∙ c.loop-outcome.invariant.rest;
  statuses = settled_more (settled_by c.args.plan.now c.args.kept.now) c.loop-outcome.yielded c.in-Some.outcome c.in_ok-settle.field-0 c.loop-outcome.statuses c.push.new.self c.loop-outcome.invariant.statuses
      (c.in_ok-settle.ensures ∙ ap (λ n. settled_by c.args.plan.now c.args.kept.now n c.in-Some.outcome) c.loop-outcome.invariant.place) c.in_ok-push.ensures.ok;
}
