use Rattle.std.proofs.Common.{◌≡◌, take}
use Rattle.tree_index.specs.Targets.{names_of}
use Rattle.tree_index.proofs.name_list.names_of.Given as goal

abbrev pub invariant-loop-info : goal.invariant-loop-info
invariant-loop-info l = l.names ≡ names_of (take l.info-index l.nodes)
