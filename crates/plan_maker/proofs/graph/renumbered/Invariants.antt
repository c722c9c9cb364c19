use Rattle.std.proofs.Common.{◌≡◌, map, take}
use Rattle.plan_maker.specs.Edges.{edge_by}
use Rattle.plan_maker.proofs.graph.renumbered.Given as goal

abbrev pub invariant-loop-edge : goal.invariant-loop-edge
invariant-loop-edge l = l.found ≡ map (edge_by l.places) (take l.edge-index l.edges)
