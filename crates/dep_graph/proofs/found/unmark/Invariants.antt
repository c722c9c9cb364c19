use Rattle.std.proofs.Common.{◌≡◌, take}
use Rattle.dep_graph.specs.Found.{unmarked}
use Rattle.dep_graph.proofs.found.unmark.Given as goal

abbrev pub invariant-loop-n : goal.invariant-loop-n
invariant-loop-n l = l.marks.items ≡ unmarked l.fn.marks.items (take l.n-index l.nodes)
