use Rattle.port_desc.proofs.Flavored.{FlavorsSoFar}
use Rattle.port_desc.proofs.flavor_list.checked.Given as goal

abbrev pub invariant-loop-word : goal.invariant-loop-word
invariant-loop-word l = FlavorsSoFar l.word-items l.before l.word-index
