use Rattle.bucket_queue.specs.QueueView.{first_mark}
use Rattle.bucket_queue.proofs.Buckets.{mapped_more}
use Rattle.bucket_queue.proofs.begin.first_marks.Goals as goal

pub loop-n-preserved : goal.loop-n-preserved
loop-n-preserved c =
    mapped_more (first_mark c.args.plan.now c.args.kept.now) c.loop-n.n c.loop-n.marks.items _
    c.first_mark.result c.loop-n.invariant c.in_ok-push.ensures.items c.first_mark.ensures
