use Rattle.std.proofs.Common.{◌≡◌, take, drop, map}
use Rattle.std.specs.Prelude.{IsTrue}
use Rattle.one_port.specs.NodeJobs.{jobs_in, nodes_at}
use Rattle.one_port.specs.PortsWanted.{names_of}
use Rattle.one_port.proofs.NodeJob.{joined}
use Rattle.one_port.proofs.node_job.read_jobs.Given as goal

abbrev pub invariant-loop-number : goal.invariant-loop-number
invariant-loop-number g l = record {
  told : IsTrue g.T.Tree.tells → jobs_in (g.T.Tree.content l.initial.tree) (nodes_at l.nodes l.numbers)
      ≡ joined l.jobs (jobs_in (g.T.Tree.content l.initial.tree) (nodes_at l.nodes (drop l.number-index l.numbers)));
  names : names_of l.jobs ≡ map (λ node. node.desc.name) (nodes_at l.nodes (take l.number-index l.numbers));
  same : g.T.Tree.content l.tree ≡ g.T.Tree.content l.initial.tree;
  quiet : g.T.Tree.faults l.tree ≡ g.T.Tree.faults l.initial.tree;
}
