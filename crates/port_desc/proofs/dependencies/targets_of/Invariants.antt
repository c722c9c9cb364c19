use Rattle.port_desc.proofs.Targets.{TargetsSoFar}
use Rattle.port_desc.proofs.dependencies.targets_of.Given as goal

abbrev pub invariant-loop-word : goal.invariant-loop-word
invariant-loop-word l = TargetsSoFar l.words l.targets l.word-index
