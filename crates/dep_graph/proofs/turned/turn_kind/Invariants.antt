use Rattle.std.proofs.Common.{take}
use Rattle.dep_graph.specs.Turned.{Grew, turned_of_kind}
use Rattle.dep_graph.proofs.turned.turn_kind.Given as goal

abbrev pub invariant-loop-edge : goal.invariant-loop-edge
invariant-loop-edge l = Grew l.fn.lists.items l.lists.items (λ d. turned_of_kind l.n l.kind d (take l.edge-index l.edges))
