use Rattle.std.proofs.Common.{◌≡◌, List, take}
use Rattle.std.specs.Prelude.{map}
use Rattle.tree_index.specs.declared.node.NodeInfo.{NodeInfo}
use Rattle.tree_index.specs.Numbers.{AreOf}
use Rattle.tree_index.specs.Targets.{target_of}
use Rattle.tree_index.proofs.resolving.resolve_entries.Given as goal

abbrev pub invariant-loop-entry : goal.invariant-loop-entry
invariant-loop-entry l = (nodes : List NodeInfo) → AreOf nodes l.numbers l.names → l.targets ≡ map (target_of nodes l.moved) (take l.entry-index l.entries)
