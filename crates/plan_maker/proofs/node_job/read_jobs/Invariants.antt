use Rattle.std.proofs.Common.{◌≡◌, ◌≤◌, [], drop, take, map}
use Rattle.std.specs.Prelude.{IsTrue}
use Rattle.job_files.specs.Turns.{in_turn}
use Rattle.plan_maker.specs.Jobs.{with_job, no_jobs, job_of}
use Rattle.plan_maker.specs.Over.{bare}
use Rattle.plan_maker.proofs.node_job.read_jobs.Given as goal

abbrev pub invariant-loop-n : goal.invariant-loop-n
invariant-loop-n g l = record {
  told : IsTrue g.T.Tree.tells → in_turn (with_job (g.T.Tree.content l.initial.tree) l.index) no_jobs l.nodes
      ≡ in_turn (with_job (g.T.Tree.content l.initial.tree) l.index) l.found (drop l.n-index l.nodes);
  bare : map bare l.found.jobs ≡ map (λ n. job_of l.index n []) (take l.n-index l.nodes);
  few : l.found.bytes ≤ 268435456;
  same : g.T.Tree.content l.tree ≡ g.T.Tree.content l.initial.tree;
  quiet : g.T.Tree.faults l.tree ≡ g.T.Tree.faults l.initial.tree;
}
