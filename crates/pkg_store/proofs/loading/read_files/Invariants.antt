use Rattle.std.proofs.Common.{◌≡◌, ◌≤◌, drop}
use Rattle.std.specs.Prelude.{IsTrue}
use Rattle.outside.specs.Changes.{IsUnchanged}
use Rattle.pkg_store.specs.Reading.{files_read, MayRead}
use Rattle.pkg_store.proofs.loading.read_files.Given as goal

abbrev pub invariant-loop-file : goal.invariant-loop-file
invariant-loop-file g l = record {
  told : IsTrue g.S.Store.tells → files_read (g.S.Store.content l.initial.store) l.files l.initial.found
      ≡ files_read (g.S.Store.content l.initial.store) (drop l.file-index l.files) l.found;
  form : MayRead l.initial.found l.files → MayRead l.found (drop l.file-index l.files);
  less : l.found.left ≤ l.initial.found.left;
  same : IsUnchanged (g.S.Store.content l.initial.store) (g.S.Store.content l.store) (g.S.Store.journal l.initial.store) (g.S.Store.journal l.store);
  quiet : g.S.Store.faults l.store ≡ g.S.Store.faults l.initial.store;
}
