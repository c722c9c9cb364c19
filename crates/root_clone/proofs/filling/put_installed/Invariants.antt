use Rattle.std.proofs.Common.{◌≡◌, drop}
use Rattle.std.specs.Prelude.{IsTrue, codes}
use Rattle.bulk_model.specs.Bake.{placed, installed}
use Rattle.root_clone.specs.Taking.{with_all, CanTake}
use Rattle.root_clone.proofs.filling.put_installed.Given as goal

abbrev pub invariant-loop-package : goal.invariant-loop-package
invariant-loop-package g l = record {
  free : IsTrue g.R.Ways.Ways.tells
      → CanTake (g.R.Room.folder l.room) (placed (codes "local") (installed (drop l.package-index l.packages)));
  told : IsTrue g.R.Ways.Ways.tells
      → with_all (g.R.Room.folder l.room) (placed (codes "local") (installed (drop l.package-index l.packages)))
      ≡ with_all (g.R.Room.folder l.initial.room) (placed (codes "local") (installed l.packages));
  begun : g.R.Room.begun l.room ≡ g.R.Room.begun l.initial.room;
  quiet : g.R.Room.faults l.room ≡ g.R.Room.faults l.initial.room;
}
