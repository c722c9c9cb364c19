use Rattle.std.proofs.Common.{◌≡◌}
use Rattle.std.specs.Prelude.{filter}
use Rattle.std.specs.List.{range_with_len}
use Rattle.dep_graph.specs.Graphs.{has}
use Rattle.dep_graph.proofs.found.Found.ascending.Given as goal

abbrev pub invariant-loop-n : goal.invariant-loop-n
invariant-loop-n l = l.numbers ≡ filter (has l.fn.self.nodes) (range_with_len 0 l.n)
