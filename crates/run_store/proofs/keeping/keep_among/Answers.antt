use Rattle.std.proofs.Common.{ap, subst, ◌∙◌}
use Rattle.bulk_model.specs.Views.{node_of_job}
use Rattle.run_store.specs.First.{AreFirst}
use Rattle.run_store.proofs.Firsts.{kept_more}
use Rattle.run_store.proofs.keeping.keep_among.Goals as goal

pub loop-job-preserved : goal.loop-job-preserved
loop-job-preserved c =
    kept_more c.args.packages.now c.as_slice-job-items.result.now c.loop-job.job-index c.job-item.result c.in_ok-node.node c.in_ok-firsts.firsts c.in_ok-package_at.field-0
    c.loop-job.kept c.push.new.self c.loop-job-test.true c.job-item.is
    (c.in_ok-node.ensures ∙ ap node_of_job c.job.view_is)
    (subst (λ packages. AreFirst packages c.in_ok-firsts.firsts) c.as_slice.ensures c.in_ok-firsts.ensures) c.in_ok-package_at.ensures
    c.loop-job.invariant c.in_ok-push.ensures.ok
