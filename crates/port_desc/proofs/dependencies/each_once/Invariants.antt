use Rattle.port_desc.proofs.Once.{OnceSoFar}
use Rattle.port_desc.proofs.dependencies.each_once.Given as goal

abbrev pub invariant-loop-text : goal.invariant-loop-text
invariant-loop-text l = OnceSoFar l.texts l.before l.found.items l.text-index
