use Rattle.std.proofs.Common.{◌≡◌, take, map}
use Rattle.plan_maker.specs.Edges.{edges_by}
use Rattle.plan_maker.proofs.graph.plan_edges.Given as goal

abbrev pub invariant-loop-n : goal.invariant-loop-n
invariant-loop-n l = l.lists ≡ map (edges_by l.index l.places.items) (take l.n-index l.nodes)
