use Rattle.std.proofs.Common.{◌≡◌, ◌∙◌, [], ap, sym, subst, map}
use Rattle.bulk_model.specs.Trees.{IsOrderly}
use Rattle.plan_maker.specs.Jobs.{job_of}
use Rattle.plan_maker.specs.Over.{bare, IsOver}
use Rattle.plan_maker.proofs.Planned.{plan_form, plan_over, plan_orderly}
use Rattle.plan_maker.proofs.planning.plan.Goals as goal

pub complete-requires : goal.complete-requires
complete-requires g c =
    let index = c.args.index.now in
    let outline = c.in_ok-outline.outline in
    let jobs : map bare c.in_ok-found.found.jobs ≡ map (λ n. job_of index n []) outline.nodes = c.in_ok-found.ensures.bare ∙ ap (map (λ n. job_of index n [])) c.as_slice.ensures in
    plan_form index c.args.wanted.now c.args.boost.now outline c.in_ok-found.found.jobs c.in_ok-base.base.files c.index_form.ensures c.in_ok-outline.ensures.outline jobs c.in_ok-base.ensures.form

pub returns-clause-over : goal.returns-clause-over
returns-clause-over g c =
    let index = c.args.index.now in
    let outline = c.in_ok-outline.outline in
    let jobs : map bare c.in_ok-found.found.jobs ≡ map (λ n. job_of index n []) outline.nodes = c.in_ok-found.ensures.bare ∙ ap (map (λ n. job_of index n [])) c.as_slice.ensures in
    subst (IsOver index c.args.wanted.now) (sym c.complete.ensures) (plan_over index c.args.wanted.now c.args.boost.now outline c.in_ok-found.found.jobs c.in_ok-base.base.files c.in_ok-outline.ensures.outline jobs)

pub returns-clause-orderly : goal.returns-clause-orderly
returns-clause-orderly g c =
    let index = c.args.index.now in
    let outline = c.in_ok-outline.outline in
    let jobs : map bare c.in_ok-found.found.jobs ≡ map (λ n. job_of index n []) outline.nodes = c.in_ok-found.ensures.bare ∙ ap (map (λ n. job_of index n [])) c.as_slice.ensures in
    subst IsOrderly (sym c.complete.ensures) (plan_orderly index c.args.wanted.now c.args.boost.now outline c.in_ok-found.found.jobs c.in_ok-base.base.files c.index_form.ensures c.in_ok-outline.ensures.outline jobs)
