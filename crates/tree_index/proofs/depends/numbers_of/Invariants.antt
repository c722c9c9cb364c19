use Rattle.tree_index.proofs.Needed.{NeededSoFar}
use Rattle.tree_index.proofs.depends.numbers_of.Given as goal

abbrev pub invariant-loop-target : goal.invariant-loop-target
invariant-loop-target l = NeededSoFar l.targets l.kind l.target-index l.numbers.keys
