use Rattle.std.proofs.Common.{◌≡◌, take}
use Rattle.std.specs.Prelude.{IsTrue, codes}
use Rattle.std.specs.FinMap.{from_entries}
use Rattle.bulk_model.specs.Bake.{placed}
use Rattle.one_port.proofs.furnishing.put_files.Given as goal

abbrev pub invariant-loop-file : goal.invariant-loop-file
invariant-loop-file g l = record {
  told : IsTrue g.R.Ways.Ways.tells → g.R.Room.folder l.room ≡ from_entries (placed (codes "work") (take l.file-index l.files));
  begun : g.R.Room.begun l.room ≡ g.R.Room.begun l.initial.room;
  quiet : g.R.Room.faults l.room ≡ g.R.Room.faults l.initial.room;
}
