use Rattle.plan_laws.proofs.Trees.{recipe_is}
use Rattle.plan_laws.proofs.law.recipes_are_of_the_tree.Goals as goal

pub returns : goal.returns
returns c = recipe_is
