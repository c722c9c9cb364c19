use Rattle.std.specs.List.{flat_map, range_with_len}
use Rattle.dep_graph.specs.Turned.{Grew, turned_of_kind}
use Rattle.dep_graph.proofs.turned.turn_node.Given as goal

abbrev pub invariant-loop-kind : goal.invariant-loop-kind
invariant-loop-kind l = Grew l.fn.lists.items l.lists.items (λ d. flat_map (λ kind. turned_of_kind l.n kind d l.edges) (range_with_len 0 l.kind))
