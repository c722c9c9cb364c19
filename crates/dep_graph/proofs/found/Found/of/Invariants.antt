use Rattle.std.proofs.Common.{◌≡◌, [], take}
use Rattle.dep_graph.specs.Found.{FoundView, with_nodes}
use Rattle.dep_graph.proofs.found.Found.of.Given as goal

abbrev pub invariant-loop-n : goal.invariant-loop-n
invariant-loop-n l = l.found ≡ (let f : FoundView = record { count = l.fn.count; nodes = with_nodes [] (take l.n-index l.nodes) } in f)
