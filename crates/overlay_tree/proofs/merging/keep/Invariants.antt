use Rattle.std.proofs.Common.{take, ◌++◌}
use Rattle.std.specs.Prelude.{filter}
use Rattle.std.specs.FinMap.{keys}
use Rattle.overlay_tree.specs.Listed.{Alike, stays}
use Rattle.overlay_tree.proofs.merging.keep.Given as goal

abbrev pub invariant-loop-path : goal.invariant-loop-path
invariant-loop-path l = Alike (keys l.kept) (filter (stays (keys l.later)) (take l.path-index l.list) ++ keys l.initial.kept)
