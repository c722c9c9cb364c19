use Rattle.std.proofs.Common.{◌≡◌}
use Rattle.std.specs.Prelude.{IsTrue}
use Rattle.pkg_store.specs.Changing.{WereRemoved}
use Rattle.pkg_store.proofs.changing.delete.Given as goal

abbrev pub invariant-loop-name : goal.invariant-loop-name
invariant-loop-name g l = record {
  told : IsTrue g.S.Store.tells → WereRemoved l.names l.name-index (g.S.Store.content l.initial.store) (g.S.Store.content l.store) (g.S.Store.journal l.initial.store) (g.S.Store.journal l.store);
  quiet : g.S.Store.faults l.store ≡ g.S.Store.faults l.initial.store;
}
