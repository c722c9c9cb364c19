use Rattle.dep_graph.proofs.Turning.{TurnedBelow}
use Rattle.dep_graph.proofs.turned.turned.Given as goal

abbrev pub invariant-loop-n : goal.invariant-loop-n
invariant-loop-n l = TurnedBelow l.graph l.n l.lists.items
