use Rattle.std.proofs.Common.{◌≡◌, List, length}
use Rattle.std.specs.List.{count_by}
use Rattle.bulk_model.specs.declared.results.Status.{Status}
use Rattle.bulk_model.specs.PlanFacts.{IsPlan}
use Rattle.bucket_queue.specs.QueueView.{is_free}
use Rattle.bucket_queue.specs.Taking.{AreResults, TellWell}
use Rattle.bucket_queue.proofs.Rest.{IsSoFar}
use Rattle.bucket_queue.proofs.orders.taken.Given as goal

abbrev pub invariant-loop-n : goal.invariant-loop-n
invariant-loop-n l = record {
  size : length l.queue.marks ≡ length l.plan.jobs;
  so_far : (statuses : List Status) → (is : IsPlan l.plan) → (results : AreResults l.plan l.kept statuses)
      → TellWell l.plan statuses l.well → IsSoFar l.plan is l.kept statuses results l.queue l.numbers;
}

abbrev pub decreases-loop-n : goal.decreases-loop-n
decreases-loop-n l = count_by is_free l.queue.marks
