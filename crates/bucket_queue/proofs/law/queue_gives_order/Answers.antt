use Rattle.bucket_queue.proofs.Taking.{queue_gives_order as law}
use Rattle.bucket_queue.proofs.law.queue_gives_order.Goals as goal

pub returns : goal.returns
returns c = λ plan kept statuses is results. law plan is kept statuses results
