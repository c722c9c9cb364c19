-- What a law asks of a store, of the plan over it and of the tree that the plan is of.
use Rattle.std.specs.Prelude.{◌≡◌, Bool, false, List, Contains}
use Rattle.bulk_base.specs.declared.file.FileItem.{FileItem}
use Rattle.bulk_model.specs.Bake.{Runs}
use Rattle.bulk_model.specs.PlanFacts.{IsPlan}
use Rattle.bulk_model.specs.PlanView.{PlanView}
use Rattle.bulk_model.specs.Recipe.{recipe}
use Rattle.bulk_model.specs.Sound.{Recipe, IsTable, Agrees, HasNames, IsSound}
use Rattle.bulk_model.specs.Trees.{IsOrderly, IsTree, IsOfTree}
use Rattle.bulk_model.specs.Views.{JobView, PackageView, node_of_job, node_of_package}

-- a package has the node and the recipe of a job of the tree
pub record HasItsJob (tree : List JobView) (base : List FileItem) (p : PackageView) : Type 0 where
  pub job : JobView
  pub stands : Contains tree job
  pub node : node_of_job job ≡ node_of_package p
  pub digest : recipe base job ≡ p.recipe

-- a store over a plan of a tree, by a test of own reasons
pub record IsStore (runs : Runs) (table : List Recipe) (plan : PlanView) (tree : List JobView)
    (own : PackageView → Bool) (members : List PackageView) : Type 0 where
  -- the plan is one, as it is made of a tree, and of this tree
  pub is_plan : IsPlan plan
  pub orderly : IsOrderly plan
  pub is_tree : IsTree tree
  pub of_tree : IsOfTree plan tree
  -- a table has one recipe a digest, and the recipes of the tree's jobs
  pub is_table : IsTable table
  pub agrees : Agrees table tree plan.base
  -- a package without an own reason has the recipe of the tree's job at its node
  pub current : (p : PackageView) → own p ≡ false → HasItsJob tree plan.base p
  -- the store has one package of a name, and is sound
  pub names : HasNames members
  pub sound : IsSound runs table members
