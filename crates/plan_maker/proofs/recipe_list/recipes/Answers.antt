use Rattle.std.proofs.Common.{◌≡◌, ◌∙◌, ap, refl, length, map, arith}
use Rattle.std.specs.List.{range_with_len}
use Rattle.dep_graph.specs.Graphs.{has}
use Rattle.bulk_model.specs.PlanView.{PlanView}
use Rattle.outside.specs.Contents.{Contents}
use Rattle.tree_index.specs.Index.{IndexView}
use Rattle.plan_maker.specs.Recipes.{recipe_at, recipe_where, recipes_in}
use Rattle.plan_maker.proofs.Listing.{asked_more, map_range_more, one_longer}
use Rattle.plan_maker.proofs.recipe_list.recipes.Goals as goal

pub loop-n-preserved : goal.loop-n-preserved
loop-n-preserved g c =
    let content : Contents = g.T.Tree.content c.args.tree.now in
    let n = c.loop-n.n in
    let pushed = c.in_ok-push.ensures.ok in
    let asked : c.get-asked.result ≡ has c.args.nodes.now n = c.get-asked.ensures ∙ c.in_ok-asked.ensures.marks n c.loop-n-test.true ∙ ap (λ ns. has ns n) c.as_slice.ensures in
    let base : c.plan.inside.base ≡ c.args.plan.now.base = ap (λ (view : PlanView). view.base) c.plan.view_is in
    record {
      told = λ t.
          map_range_more (recipe_at content c.args.index.now c.args.plan.now.base c.args.nodes.now) n c.loop-n.digests c.push.new.self c.in_ok-recipe_at.field-0 (c.loop-n.invariant.told t)
          (c.in_ok-recipe_at.ensures.recipe t ∙ (λ i. recipe_where (c.loop-n.invariant.same i) c.args.index.now (base i) (asked i) n)) pushed;
      size = one_longer c.loop-n.digests c.push.new.self c.in_ok-recipe_at.field-0 n c.loop-n.invariant.size pushed;
      none = asked_more c.args.index.now c.args.nodes.now n c.loop-n.digests c.push.new.self c.in_ok-recipe_at.field-0 c.get-asked.result c.loop-n.invariant.size pushed asked c.in_ok-recipe_at.ensures.none c.loop-n.invariant.none;
      same = c.in_ok-recipe_at.ensures.same ∙ c.loop-n.invariant.same;
      quiet = c.in_ok-recipe_at.ensures.cause.kept refl ∙ c.loop-n.invariant.quiet;
    }

pub returns-clause-recipes : goal.returns-clause-recipes
unfolding recipes_in
returns-clause-recipes g c t =
    let content : Contents = g.T.Tree.content c.args.tree.now in
    let all : c.loop-n.n ≡ length c.args.index.now.nodes = (let count : c.len-count.result ≡ length c.args.index.now.nodes = c.len-count.ensures ∙ ap (λ (view : IndexView). length view.nodes) c.index.view_is in omega arith) in
    c.loop-n.invariant.told t ∙ ap (λ k. map (recipe_at content c.args.index.now c.args.plan.now.base c.args.nodes.now) (range_with_len 0 k)) all
