use Rattle.std.proofs.Common.{◌≡◌, take}
use Rattle.plan_maker.proofs.graph.copies.Given as goal

abbrev pub invariant-loop-edges : goal.invariant-loop-edges
invariant-loop-edges l = l.copied ≡ take l.edges-index l.lists
