use Rattle.std.proofs.Common.{◌≡◌, ◌<◌, not, length, take, IfSome}
use Rattle.bulk_base.specs.Least.{least_passing}
use Rattle.dep_graph.specs.Graphs.{targets}
use Rattle.status_lists.specs.Fates.{fate_in, has_package}
use Rattle.status_lists.proofs.fates.least_setback.Given as goal

abbrev pub invariant-loop-edge : goal.invariant-loop-edge
invariant-loop-edge l = record {
  least : l.least
      ≡ least_passing (λ d. not (has_package (fate_in l.fates d))) (targets (take l.edge-index l.edges));
  node : IfSome l.least (λ d. d < length l.fates);
}
