use Rattle.std.proofs.Common.{◌≡◌, take}
use Rattle.std.specs.Prelude.{map}
use Rattle.bulk_model.specs.Results.{is_good}
use Rattle.bucket_queue.proofs.orders.order.Given as goal

abbrev pub invariant-loop-status : goal.invariant-loop-status
invariant-loop-status l = l.well.items ≡ map is_good (take l.status-index l.status-items)
