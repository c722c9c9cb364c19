use Rattle.std.proofs.Common.{◌≡◌, ◌<◌, ℕ, length, take}
use Rattle.bulk_model.specs.Flags.{flag}
use Rattle.dep_graph.specs.Graphs.{has}
use Rattle.plan_maker.proofs.recipe_list.marked.Given as goal

abbrev pub invariant-loop-n : goal.invariant-loop-n
invariant-loop-n l = record {
  size : length l.marks ≡ l.count;
  marks : (n : ℕ) → n < l.count → flag l.marks n ≡ has (take l.n-index l.nodes) n;
}
