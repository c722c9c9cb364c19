use Rattle.std.proofs.Common.{◌≡◌, ◌++◌, true, take, drop, length, map}
use Rattle.std.specs.Prelude.{IsTrue, nat_le, find, None}
use Rattle.std.specs.List.{filter_map, list_all}
use Rattle.bulk_model.specs.Facts.{paths_of}
use Rattle.bulk_model.specs.Files.{file_at}
use Rattle.one_port.specs.NodeJobs.{is_large}
use Rattle.one_port.proofs.PathLists.{IsPathList, rest_of}
use Rattle.one_port.proofs.port_files.read_files.Given as goal

abbrev pub invariant-loop-path : goal.invariant-loop-path
invariant-loop-path g l = record {
  told : IsTrue g.T.Tree.tells → l.files ≡ filter_map (file_at l.folder (g.T.Tree.content l.initial.tree)) (take l.path-index l.path-items);
  small : IsTrue g.T.Tree.tells → find (is_large (g.T.Tree.content l.initial.tree)) (take l.path-index l.path-items) ≡ None;
  form : IsPathList (paths_of l.files ++ map (rest_of l.folder) (drop l.path-index l.path-items));
  short : list_all (λ path. nat_le (length path) 1019) (paths_of l.files) ≡ true;
  same : g.T.Tree.content l.tree ≡ g.T.Tree.content l.initial.tree;
  quiet : g.T.Tree.faults l.tree ≡ g.T.Tree.faults l.initial.tree;
}
