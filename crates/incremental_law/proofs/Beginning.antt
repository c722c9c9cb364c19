-- An empty store, and a table of a tree's own jobs.
use Rattle.std.proofs.Common.{◌≡◌, Bool, false, List, [], ap, sym, ◌∙◌}
use Rattle.std.specs.Prelude.{Contains}
use Rattle.bulk_base.specs.declared.file.FileItem.{FileItem}
use Rattle.bulk_base.proofs.Members.{contains_none, contains_map, map_contains, Source}
use Rattle.bulk_model.specs.Bake.{Runs}
use Rattle.bulk_model.specs.PlanFacts.{IsPlan}
use Rattle.bulk_model.specs.PlanView.{PlanView}
use Rattle.bulk_model.specs.Recipe.{recipe}
use Rattle.bulk_model.specs.Sound.{Recipe, recipe_of}
use Rattle.bulk_model.specs.Trees.{IsOrderly, IsTree, IsOfTree}
use Rattle.bulk_model.specs.Views.{JobView, PackageView}
use Rattle.incremental_law.specs.Laws.{EmptyIsStore, table_of}

one_recipe : (base : List FileItem) (tree : List JobView) → ((a b : JobView) → Contains tree a → Contains tree b → recipe base a ≡ recipe base b → a ≡ b)
    → (a b : Recipe) → Contains (table_of base tree) a → Contains (table_of base tree) b → a.digest ≡ b.digest → a ≡ b
one_recipe base tree apart a b c d e =
    let f : Source (recipe_of base) tree a = map_contains (recipe_of base) tree a c in
    let g : Source (recipe_of base) tree b = map_contains (recipe_of base) tree b d in
    let same : f.one ≡ g.one = apart f.one g.one f.is g.is (ap (λ (r : Recipe). r.digest) f.gives ∙ e ∙ sym (ap (λ (r : Recipe). r.digest) g.gives)) in
    sym f.gives ∙ ap (recipe_of base) same ∙ g.gives

pub empty_is_store : EmptyIsStore
empty_is_store runs plan tree own is_plan orderly is_tree of_tree apart current = record {
  is_plan = is_plan;
  orderly = orderly;
  is_tree = is_tree;
  of_tree = of_tree;
  is_table = record { one = one_recipe plan.base tree apart };
  agrees = λ job c. contains_map (recipe_of plan.base) tree job c;
  current = current;
  names = λ p q c d e. absurd (contains_none p c);
  sound = λ some within closed p c. absurd (contains_none p (within p c));
}
