use Rattle.std.proofs.Common.{◌≡◌, drop}
use Rattle.std.specs.Prelude.{IsTrue}
use Rattle.tree_index.specs.Gathered.{AreWhole}
use Rattle.tree_index.specs.Tree.{each_in_turn, with_category, nothing_found}
use Rattle.tree_index.proofs.Gathering.{AreBefore, category_of}
use Rattle.tree_index.proofs.category.read_categories.Given as goal

abbrev pub invariant-loop-category : goal.invariant-loop-category
invariant-loop-category g l = record {
  told : IsTrue g.T.Tree.tells → each_in_turn (with_category l.make l.try_broken (g.T.Tree.content l.initial.tree)) nothing_found l.category-items
      ≡ each_in_turn (with_category l.make l.try_broken (g.T.Tree.content l.initial.tree)) l.found (drop l.category-index l.category-items);
  whole : AreWhole l.found.nodes;
  before : AreBefore category_of (drop l.category-index l.category-items) l.found.nodes;
  same : g.T.Tree.content l.tree ≡ g.T.Tree.content l.initial.tree;
  quiet : g.T.Tree.faults l.tree ≡ g.T.Tree.faults l.initial.tree;
}
