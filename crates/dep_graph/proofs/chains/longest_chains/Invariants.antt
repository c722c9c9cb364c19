use Rattle.dep_graph.proofs.LongChains.{LengthsSoFar}
use Rattle.dep_graph.proofs.chains.longest_chains.Given as goal

abbrev pub invariant-loop-done : goal.invariant-loop-done
invariant-loop-done l = LengthsSoFar l.graph l.order l.done l.lengths.items
