use Rattle.std.proofs.Common.{take, ◌++◌}
use Rattle.std.specs.FinMap.{keys}
use Rattle.overlay_tree.specs.Listed.{Alike}
use Rattle.overlay_tree.proofs.merging.add.Given as goal

abbrev pub invariant-loop-path : goal.invariant-loop-path
invariant-loop-path l = Alike (keys l.paths) (take l.path-index l.list ++ keys l.initial.paths)
