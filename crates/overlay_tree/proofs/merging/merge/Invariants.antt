use Rattle.std.proofs.Common.{drop}
use Rattle.overlay_tree.proofs.Walks.{MergedSoFar}
use Rattle.overlay_tree.proofs.merging.merge.Given as goal

abbrev pub invariant-loop-at : goal.invariant-loop-at
invariant-loop-at l = MergedSoFar l.lists l.at l.kept l.later

abbrev pub decreases-loop-at : goal.decreases-loop-at
decreases-loop-at l = l.at
