use Rattle.std.proofs.Common.{◌≡◌, length}
use Rattle.std.specs.List.{count_by}
use Rattle.bucket_queue.specs.QueueView.{is_free}
use Rattle.bulk_core.proofs.Running.{IsRun}
use Rattle.bulk_core.proofs.turns.build_left.Given as goal

abbrev pub invariant-loop-n : goal.invariant-loop-n
invariant-loop-n g l = record {
  run : IsRun g.B.Ways.Ways.tells g.B.Ways.Ways.runs l.plan l.kept l.initial.outcomes.items (g.B.Baking.begun l.initial.baker) l.outcomes.items l.queue (g.B.Baking.begun l.baker);
  collector : l.collector ≡ length l.plan.jobs;
  quiet : g.B.Baking.faults l.baker ≡ g.B.Baking.faults l.initial.baker;
}

abbrev pub decreases-loop-n : goal.decreases-loop-n
decreases-loop-n g l = count_by is_free l.queue.marks
