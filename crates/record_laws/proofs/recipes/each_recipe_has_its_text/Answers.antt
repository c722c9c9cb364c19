use Rattle.record_laws.proofs.RecipesApart.{each_has_its_text}
use Rattle.record_laws.proofs.recipes.each_recipe_has_its_text.Goals as goal

pub returns : goal.returns
returns c = each_has_its_text
