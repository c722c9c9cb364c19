use Rattle.std.proofs.Common.{take}
use Rattle.dep_graph.specs.Graphs.{targets}
use Rattle.dep_graph.specs.Chains.{Raised}
use Rattle.dep_graph.proofs.chains.raise_all.Given as goal

abbrev pub invariant-loop-edge : goal.invariant-loop-edge
invariant-loop-edge l = Raised (targets (take l.edge-index l.edges)) l.value l.fn.numbers.items l.numbers.items
