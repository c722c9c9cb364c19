use Rattle.plan_laws.proofs.Alone.{has_recipe}
use Rattle.plan_laws.proofs.law.asked_nodes_have_recipes.Goals as goal

pub returns : goal.returns
returns c = has_recipe
