use Rattle.std.proofs.Common.{Result, Ok, ap, sym, ◌∙◌}
use Rattle.port_vars.specs.Assignment.{◌>>=◌}
use Rattle.bulk_model.specs.declared.digest.Recipes.{Recipes}
use Rattle.pkg_store.specs.Loaded.{LoadedView}
use Rattle.run_answer.specs.declared.answer.Answer.{Answer}
use Rattle.run_store.specs.Sifting.{held_recipes, sifted, sift_step}
use Rattle.run_store.specs.declared.sifting.Sifted.{Sifted}
use Rattle.run_store.proofs.sifting.sift_store.Goals as goal

pub returns-clause-told : goal.returns-clause-told
unfolding sift_step
returns-clause-told g c tree store =
    ap (λ (loading : Result LoadedView Answer). loading >>= (λ (loaded : LoadedView).
    let due : Result Sifted Answer = Ok (sifted c.args.index.now c.args.plan.now c.args.asked.now loaded (held_recipes (g.T.Tree.content c.args.tree.now) c.args.index.now c.args.plan.now.base loaded)) in due))
    (c.in_ok-loaded.ensures.told store)
    ∙ ap (λ (recipes : Recipes). let due : Result Sifted Answer = Ok (sifted c.args.index.now c.args.plan.now c.args.asked.now c.in_ok-loaded.loaded recipes) in due)
    (sym (c.in_ok-recipes.ensures.recipes tree))
    ∙ ap Ok (sym c.in_ok-sift_loaded.ensures.sifted)
