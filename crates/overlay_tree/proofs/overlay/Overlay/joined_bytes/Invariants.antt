use Rattle.std.specs.Prelude.{◌≤◌, map, IfSome, vec_len}
use Rattle.std.specs.Option.{option_map}
use Rattle.overlay_tree.specs.Listed.{total}
use Rattle.overlay_tree.proofs.Walks.{IsKept, JoinedSoFar}
use Rattle.overlay_tree.proofs.overlay.Overlay.joined_bytes.Given as goal

abbrev pub invariant-loop-at : goal.invariant-loop-at
invariant-loop-at g l =
    IsKept (map g.T.Tree.content l.initial.self) (map g.T.Tree.content l.self) (total g.T.Tree.faults l.initial.self) (total g.T.Tree.faults l.self)
    × JoinedSoFar g.T.Tree.tells l.most l.file (map g.T.Tree.content l.initial.self) l.at (option_map (λ b. b.items) l.found)
    × IfSome l.found (λ bytes. vec_len bytes ≤ l.most)
