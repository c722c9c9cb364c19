use Rattle.std.proofs.Common.{refl, ◌∙◌}
use Rattle.one_port.proofs.PortsBuilt.{stored_more, kept_more}
use Rattle.one_port.proofs.outcome_store.store_outcomes.Goals as goal

pub returns-in_err-store_outcome-clause-left : goal.returns-in_err-store_outcome-clause-left
returns-in_err-store_outcome-clause-left g c t =
    kept_more c.args.outcomes.now c.loop-outcome.outcome-index c.outcome-item.result (g.S.Store.content c.args.store.now) (g.S.Store.content c.loop-outcome.store) (g.S.Store.content c.store_outcome.new.store)
    c.loop-outcome-test.true c.outcome-item.is (c.loop-outcome.invariant.told t) (c.in_err-store_outcome.ensures.left t)

pub loop-outcome-preserved : goal.loop-outcome-preserved
loop-outcome-preserved g c = record {
  told = λ t.
      stored_more c.args.outcomes.now c.loop-outcome.outcome-index c.outcome-item.result (g.S.Store.content c.args.store.now) (g.S.Store.content c.loop-outcome.store) (g.S.Store.content c.store_outcome.new.store)
      c.loop-outcome-test.true c.outcome-item.is (c.loop-outcome.invariant.told t) (c.in_ok-store_outcome.ensures.told t);
  quiet = c.in_ok-store_outcome.ensures.cause.kept refl ∙ c.loop-outcome.invariant.quiet;
}
