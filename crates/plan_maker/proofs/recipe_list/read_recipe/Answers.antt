use Rattle.std.proofs.Common.{◌≡◌, ◌∙◌, ap, sym, Some}
use Rattle.std.specs.Option.{option_map}
use Rattle.std.proofs.lemmas.Result.{IfOk-weaker}
use Rattle.outside.specs.Contents.{Contents}
use Rattle.bulk_model.specs.Recipe.{recipe}
use Rattle.plan_maker.specs.Recipes.{job_to_build}
use Rattle.plan_maker.proofs.Causing.{quiet_caused}
use Rattle.plan_maker.proofs.recipe_list.read_recipe.Goals as goal

pub returns-in-Some-clause-recipe : goal.returns-in-Some-clause-recipe
returns-in-Some-clause-recipe g c t =
    let content : Contents = g.T.Tree.content c.args.tree.now in
    let made : Some c.in-Some.job ≡ job_to_build content c.args.index.now c.args.n = sym c.in-Some.is ∙ c.in_ok-job.ensures.job t in
    IfOk-weaker c.recipe_of.result (λ found. found ≡ Some (recipe c.args.base.now c.in-Some.job)) (λ found. found ≡ option_map (recipe c.args.base.now) (job_to_build content c.args.index.now c.args.n))
    (λ found e. e ∙ ap (option_map (recipe c.args.base.now)) made) c.recipe_of.ensures.recipe

pub returns-in-Some-clause-cause : goal.returns-in-Some-clause-cause
returns-in-Some-clause-cause g c =
    quiet_caused (g.T.Tree.faults c.args.tree.now) (g.T.Tree.faults c.job_to_build.new.tree) c.recipe_of.result c.recipe_of.ensures.quiet c.in_ok-job.ensures.cause
