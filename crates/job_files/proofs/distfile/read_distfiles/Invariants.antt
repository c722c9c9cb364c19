use Rattle.std.proofs.Common.{◌≡◌, ◌≤◌, drop, take, map}
use Rattle.std.specs.Prelude.{IsTrue}
use Rattle.bulk_model.specs.Facts.{paths_of}
use Rattle.job_files.specs.Distfiles.{with_dist, job_path}
use Rattle.job_files.specs.Gathered.{nothing_yet}
use Rattle.job_files.specs.Turns.{in_turn}
use Rattle.job_files.proofs.distfile.read_distfiles.Given as goal

abbrev pub invariant-loop-dist : goal.invariant-loop-dist
invariant-loop-dist g l = record {
  told : IsTrue g.T.Tree.tells → in_turn (with_dist (g.T.Tree.content l.initial.tree) l.node) (nothing_yet l.bytes) l.dist-items
      ≡ in_turn (with_dist (g.T.Tree.content l.initial.tree) l.node) l.found (drop l.dist-index l.dist-items);
  paths : paths_of l.found.files ≡ map (λ dist. job_path dist.file) (take l.dist-index l.dist-items);
  few : l.found.bytes ≤ 268435456;
  same : g.T.Tree.content l.tree ≡ g.T.Tree.content l.initial.tree;
  quiet : g.T.Tree.faults l.tree ≡ g.T.Tree.faults l.initial.tree;
}
