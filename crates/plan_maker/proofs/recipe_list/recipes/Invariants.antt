use Rattle.std.proofs.Common.{◌≡◌, ◌<◌, ℕ, true, length, map, None}
use Rattle.std.specs.Prelude.{IsTrue, is_some, slice_index_or}
use Rattle.std.specs.List.{range_with_len}
use Rattle.dep_graph.specs.Graphs.{has}
use Rattle.plan_maker.specs.Recipes.{recipe_at, MayHaveRecipe}
use Rattle.plan_maker.proofs.recipe_list.recipes.Given as goal

abbrev pub invariant-loop-n : goal.invariant-loop-n
invariant-loop-n g l = record {
  told : IsTrue g.T.Tree.tells → l.digests ≡ map (recipe_at (g.T.Tree.content l.initial.tree) l.index l.plan.base l.nodes) (range_with_len 0 l.n);
  size : length l.digests ≡ l.n;
  none : (k : ℕ) → k < l.n → is_some (slice_index_or l.digests k None) ≡ true → MayHaveRecipe l.index (has l.nodes k) k;
  same : g.T.Tree.content l.tree ≡ g.T.Tree.content l.initial.tree;
  quiet : g.T.Tree.faults l.tree ≡ g.T.Tree.faults l.initial.tree;
}
