use Rattle.std.proofs.Common.{◌≡◌, ◌<◌, ℕ, false, not, take, length, slice_index_or}
use Rattle.dep_graph.specs.Graphs.{has}
use Rattle.loop_report.proofs.staying.staying.Given as goal

abbrev pub invariant-loop-n : goal.invariant-loop-n
invariant-loop-n l = record {
  size : length l.stays.items ≡ l.count;
  marks : (n : ℕ) → n < l.count → slice_index_or l.stays.items n false ≡ not (has (take l.n-index l.away) n);
}
