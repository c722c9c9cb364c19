use Rattle.std.proofs.Common.{◌≡◌, take}
use Rattle.status_lists.proofs.fates.copied.Given as goal

abbrev pub invariant-loop-edges : goal.invariant-loop-edges
invariant-loop-edges l = l.copies ≡ take l.edges-index l.lists
