use Rattle.std.proofs.Common.{◌≡◌, take}
use Rattle.dep_graph.specs.Found.{followed, found_with}
use Rattle.dep_graph.proofs.spread.add_edges.Given as goal

abbrev pub invariant-loop-edge : goal.invariant-loop-edge
invariant-loop-edge l = l.found ≡ found_with l.fn.found (followed l.follow (take l.edge-index l.edges))
