use Rattle.std.proofs.Common.{◌≡◌, ◌++◌, map, take}
use Rattle.tree_index.specs.Depends.{edge_to}
use Rattle.tree_index.proofs.depends.push_edges.Given as goal

abbrev pub invariant-loop-to : goal.invariant-loop-to
invariant-loop-to l = l.found ≡ l.initial.found ++ map (edge_to l.kind) (take l.to-index l.to-items)
