use Rattle.std.proofs.Common.{◌≡◌, map, take}
use Rattle.tree_index.specs.Depends.{depend_on}
use Rattle.tree_index.proofs.depends.depends_on.Given as goal

abbrev pub invariant-loop-edge : goal.invariant-loop-edge
invariant-loop-edge l = l.found ≡ map (depend_on l.nodes) (take l.edge-index l.edges)
