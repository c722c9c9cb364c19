use Rattle.std.proofs.Common.{◌≡◌, ◌≤◌, drop, true, length}
use Rattle.std.specs.Prelude.{IsTrue, nat_le}
use Rattle.std.specs.List.{list_all}
use Rattle.bulk_model.specs.Facts.{paths_of}
use Rattle.job_files.specs.FolderFiles.{with_file}
use Rattle.job_files.specs.Gathered.{nothing_yet}
use Rattle.job_files.specs.Turns.{in_turn}
use Rattle.job_files.proofs.FileLists.{IsSoFar}
use Rattle.job_files.proofs.folder_files.read_folder.Given as goal

abbrev pub invariant-loop-path : goal.invariant-loop-path
invariant-loop-path g l = record {
  told : IsTrue g.T.Tree.tells → in_turn (with_file l.folder (g.T.Tree.content l.initial.tree)) (nothing_yet l.bytes) l.path-items
      ≡ in_turn (with_file l.folder (g.T.Tree.content l.initial.tree)) l.found (drop l.path-index l.path-items);
  form : IsSoFar l.folder l.found.files (drop l.path-index l.path-items);
  short : list_all (λ path. nat_le (length path) 1019) (paths_of l.found.files) ≡ true;
  few : l.found.bytes ≤ 268435456;
  same : g.T.Tree.content l.tree ≡ g.T.Tree.content l.initial.tree;
  quiet : g.T.Tree.faults l.tree ≡ g.T.Tree.faults l.initial.tree;
}
