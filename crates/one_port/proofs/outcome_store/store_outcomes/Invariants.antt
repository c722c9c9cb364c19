use Rattle.std.proofs.Common.{◌≡◌, take}
use Rattle.std.specs.Prelude.{IsTrue}
use Rattle.one_port.specs.Report.{stored_all}
use Rattle.one_port.proofs.outcome_store.store_outcomes.Given as goal

abbrev pub invariant-loop-outcome : goal.invariant-loop-outcome
invariant-loop-outcome g l = record {
  told : IsTrue g.S.Store.tells → g.S.Store.content l.store ≡ stored_all (take l.outcome-index l.outcomes) (g.S.Store.content l.initial.store);
  quiet : g.S.Store.faults l.store ≡ g.S.Store.faults l.initial.store;
}
