use Rattle.std.proofs.Common.{◌≡◌, List}
use Rattle.std.specs.Prelude.{map}
use Rattle.tree_index.specs.declared.node.NodeInfo.{NodeInfo}
use Rattle.tree_index.specs.Numbers.{AreOf}
use Rattle.tree_index.specs.Targets.{targets_of, with_targets}
use Rattle.tree_index.proofs.resolving.resolve_dependencies.Given as goal

abbrev pub invariant-loop-info : goal.invariant-loop-info
invariant-loop-info l =
    (all : List NodeInfo) → AreOf all l.numbers l.names → l.resolved ≡ map (λ node. with_targets node (targets_of all l.moved node)) l.yielded
