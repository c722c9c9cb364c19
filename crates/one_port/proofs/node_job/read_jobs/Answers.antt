use Rattle.std.proofs.Common.{◌≡◌, ◌∙◌, ◌<◌, length, ap, sym, refl, Ok}
use Rattle.outside.specs.Contents.{Contents}
use Rattle.tree_index.specs.Facts.{IsNodeInfo}
use Rattle.one_port.specs.NodeJobs.{job_in, jobs_in, nodes_at}
use Rattle.one_port.proofs.NodeJob.{job_more, no_job, name_more, no_name}
use Rattle.one_port.proofs.WantedNodes.{all_at}
use Rattle.one_port.proofs.node_job.read_jobs.Goals as goal
use Rattle.one_port.proofs.node_job.read_jobs.Goals.{in-Some+in_ok-read_job+in_ok-push, in_default}

pub read_job-requires : goal.read_job-requires
read_job-requires g c = all_at IsNodeInfo c.args.nodes.now _ c.in-Some.node.now c.requires (sym c.in-Some.ensures)

pub loop-number-preserved : goal.loop-number-preserved
loop-number-preserved g c =
    let content : Contents = g.T.Tree.content c.args.tree.now in
    let nodes = c.args.nodes.now in
    let numbers = c.args.numbers.now in
    let at = c.loop-number.number-index in
    let within : at < length numbers = c.loop-number-test.true in
    let jobs = c.loop-number.jobs in
    let due = jobs_in content (nodes_at nodes numbers) in
    elim c.match-node_at.branch [
      | in-Some+in_ok-read_job+in_ok-push w ↦
          let node = w.in-Some.node.now in
          let job = w.in_ok-read_job.field-0 in
          rw (w.jobs-is, w.tree-is) (record {
            told = λ t.
                let read : job_in content node ≡ Ok job = ap (λ m. job_in m node) (sym c.loop-number.invariant.same) ∙ w.in_ok-read_job.ensures.told t in
                job_more content nodes numbers at node job jobs w.push.new.self due within (sym w.in-Some.ensures) read w.in_ok-push.ensures.ok (c.loop-number.invariant.told t);
            names = name_more nodes numbers at node job jobs w.push.new.self within (sym w.in-Some.ensures) w.in_ok-read_job.ensures.name w.in_ok-push.ensures.ok c.loop-number.invariant.names;
            same = w.in_ok-read_job.ensures.same ∙ c.loop-number.invariant.same;
            quiet = w.in_ok-read_job.ensures.cause.kept refl ∙ c.loop-number.invariant.quiet;
          })
      | in_default w ↦
          rw (w.jobs-is, w.tree-is) (record {
            told = λ t. no_job content nodes numbers at jobs due within (sym w.in_default.ensures) (c.loop-number.invariant.told t);
            names = no_name nodes numbers at jobs within (sym w.in_default.ensures) c.loop-number.invariant.names;
            same = c.loop-number.invariant.same;
            quiet = c.loop-number.invariant.quiet;
          })
    ]
