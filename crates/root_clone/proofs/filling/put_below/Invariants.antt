use Rattle.std.proofs.Common.{◌≡◌, drop}
use Rattle.std.specs.Prelude.{IsTrue}
use Rattle.bulk_model.specs.Bake.{placed}
use Rattle.root_clone.specs.Taking.{with_all, CanTake, FitBelow}
use Rattle.root_clone.proofs.filling.put_below.Given as goal

abbrev pub invariant-loop-file : goal.invariant-loop-file
invariant-loop-file g l = record {
  free : IsTrue g.R.Ways.Ways.tells → CanTake (g.R.Room.folder l.room) (placed l.folder (drop l.file-index l.files));
  short : FitBelow l.folder (drop l.file-index l.files);
  told : IsTrue g.R.Ways.Ways.tells
      → with_all (g.R.Room.folder l.room) (placed l.folder (drop l.file-index l.files))
      ≡ with_all (g.R.Room.folder l.initial.room) (placed l.folder l.files);
  begun : g.R.Room.begun l.room ≡ g.R.Room.begun l.initial.room;
  quiet : g.R.Room.faults l.room ≡ g.R.Room.faults l.initial.room;
}
