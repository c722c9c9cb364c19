use Rattle.std.specs.Prelude.{map}
use Rattle.overlay_tree.specs.Listed.{total}
use Rattle.overlay_tree.proofs.Walks.{IsKept, ListedSoFar}
use Rattle.overlay_tree.proofs.overlay.Overlay.lists_below.Given as goal

abbrev pub invariant-loop-at : goal.invariant-loop-at
invariant-loop-at g l =
    IsKept (map g.T.Tree.content l.initial.self) (map g.T.Tree.content l.self) (total g.T.Tree.faults l.initial.self) (total g.T.Tree.faults l.self)
    × ListedSoFar g.T.Tree.tells l.folder (map g.T.Tree.content l.initial.self) l.at l.lists
