use Rattle.bulk_model.specs.DryLists.{dry_statuses}
use Rattle.status_lists.proofs.Telling.{SoFar}
use Rattle.status_lists.proofs.fates.dry_fates.Given as goal

abbrev pub invariant-loop-n : goal.invariant-loop-n
invariant-loop-n l =
    SoFar l.plan (dry_statuses l.plan l.kept) l.n-items l.n-index l.fates.items
