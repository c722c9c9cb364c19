use Rattle.std.proofs.Common.{◌≡◌, ap, sym, subst, ◌∙◌}
use Rattle.bulk_model.specs.Fit.{FitsKept}
use Rattle.bulk_model.specs.PlanFacts.{IsPlan}
use Rattle.pkg_store.specs.Loaded.{LoadedView}
use Rattle.plan_maker.specs.Nodes.{IsIndexView}
use Rattle.stale_check.specs.Kept.{kept_among}
use Rattle.stale_check.specs.Lost.{AreLost}
use Rattle.stale_check.specs.Own.{own}
use Rattle.stale_check.specs.Stale.{left}
use Rattle.run_store.proofs.Fitting.{fits}
use Rattle.run_store.proofs.sifting.sift_loaded.Goals as goal

pub returns-clause-fits : goal.returns-clause-fits
returns-clause-fits c =
    let members : c.as_slice.result.now ≡ c.args.loaded.now.packages = c.as_slice.ensures ∙ ap (λ (loaded : LoadedView). loaded.packages) c.loaded.view_is in
    let stay : c.in_ok-left.left ≡ left (own c.args.index.now c.args.asked.now c.args.recipes.now) c.args.loaded.now.packages =
    c.in_ok-left.ensures (own c.args.index.now c.args.asked.now c.args.recipes.now)
    (subst (λ packages. AreLost (own c.args.index.now c.args.asked.now c.args.recipes.now) packages c.in_ok-gone.gone.lost) (sym members) c.in_ok-gone.ensures.lost)
    ∙ ap (left (own c.args.index.now c.args.asked.now c.args.recipes.now)) members in
    subst (λ kept. FitsKept c.args.plan.now kept) (sym (c.in_ok-kept.ensures ∙ ap (kept_among c.args.plan.now) stay))
    (fits c.args.index.now c.args.asked.now c.args.recipes.now c.requires.over.0 c.args.plan.now c.args.loaded.now.packages
    (subst IsIndexView c.index.view_is c.index.invariant) (subst IsPlan c.plan.view_is c.plan.invariant) c.requires.over.1 c.requires.orderly)
