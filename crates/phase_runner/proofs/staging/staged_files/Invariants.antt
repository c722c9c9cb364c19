use Rattle.std.proofs.Common.{◌≡◌, ◌+◌, ◌++◌, true, drop, length, map}
use Rattle.std.specs.Prelude.{IsTrue, codes, nat_le}
use Rattle.std.specs.List.{filter_map, list_all}
use Rattle.bulk_model.specs.Facts.{paths_of}
use Rattle.bulk_model.specs.Files.{file_at}
use Rattle.bulk_model.specs.Weight.{weight_of}
use Rattle.path_laws.specs.Laws.{IsPathList, rest_of}
use Rattle.phase_runner.proofs.staging.staged_files.Given as goal

abbrev pub invariant-loop-path : goal.invariant-loop-path
invariant-loop-path g l = record {
  told : IsTrue g.R.Ways.Ways.tells
      → l.files ++ filter_map (file_at (codes "stage") (g.R.Room.folder l.initial.room)) (drop l.path-index l.path-items)
      ≡ filter_map (file_at (codes "stage") (g.R.Room.folder l.initial.room)) l.path-items;
  same : IsTrue g.R.Ways.Ways.tells → g.R.Room.folder l.room ≡ g.R.Room.folder l.initial.room;
  sum : l.left + weight_of l.files ≡ 524288;
  form : IsPathList (paths_of l.files ++ map (rest_of (codes "stage")) (drop l.path-index l.path-items));
  short : list_all (λ path. nat_le (length path) 1018) (paths_of l.files) ≡ true;
  begun : g.R.Room.begun l.room ≡ g.R.Room.begun l.initial.room;
  quiet : g.R.Room.faults l.room ≡ g.R.Room.faults l.initial.room;
}
