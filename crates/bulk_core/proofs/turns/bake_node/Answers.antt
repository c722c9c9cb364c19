use Rattle.std.proofs.Common.{◌≡◌, ◌<◌, List, length, get_or, arith, ap, subst, ◌∙◌, Bool}
use Rattle.std.specs.Prelude.{Result, Ok, Err, IfOk}
use Rattle.std.specs.List.{filter_map}
use Rattle.std.proofs.lemmas.List.{get_or_read}
use Rattle.bulk_base.specs.declared.file.FileItem.{FileItem}
use Rattle.bulk_model.proofs.Bases.{base_may_underlie}
use Rattle.bulk_model.specs.Bake.{Runs}
use Rattle.bulk_model.specs.Baked.{IsBuildOf}
use Rattle.bulk_model.specs.declared.outcome.Outcome.{Outcome}
use Rattle.bulk_model.specs.PlanView.{job_at, no_job}
use Rattle.bulk_model.specs.Results.{package_in}
use Rattle.bulk_model.specs.Views.{JobView, PackageView}
use Rattle.bulk_core.specs.Turns.{settled, packages_for}
use Rattle.bulk_core.proofs.turns.bake_node.Goals as goal

pub bake-requires : goal.bake-requires
bake-requires g c = base_may_underlie c.plan.inside.base c.plan.invariant.base

build_at : {E : Type 0} (tells : Bool) (runs : Runs) (r : Result Outcome E) (base base_now : List FileItem) (job job_now : JobView) (packages packages_now : List PackageView)
    → base ≡ base_now → job ≡ job_now → packages ≡ packages_now → IfOk r (IsBuildOf tells runs base job packages) → IfOk r (IsBuildOf tells runs base_now job_now packages_now)
build_at tells runs (Ok o) base base_now job job_now packages packages_now b j p h =
    subst (λ x. IsBuildOf tells runs x job_now packages_now o) b (subst (λ x. IsBuildOf tells runs base x packages_now o) j (subst (λ x. IsBuildOf tells runs base job x o) p h))
build_at tells runs (Err e) base base_now job job_now packages packages_now b j p h = h

pub returns-clause-build : goal.returns-clause-build
returns-clause-build g c =
    build_at g.B.Ways.Ways.tells g.B.Ways.Ways.runs c.bake.result c.plan.inside.base c.args.plan.now.base c.index-as_slice-n.result (job_at c.args.plan.now c.args.n)
    c.as_slice-3.result.now (packages_for c.args.plan.now c.args.kept.now c.args.outcomes.now c.args.n)
    (ap (λ p. p.base) c.plan.view_is)
    (get_or_read c.as_slice-2.result.now c.args.n c.index-as_slice-n.result (let n : c.args.n < length c.args.plan.now.jobs = c.requires.node in let s : length c.as_slice-2.result.now ≡ length c.args.plan.now.jobs = ap length (c.as_slice-2.ensures ∙ ap (λ p. p.jobs) c.plan.view_is) in omega arith) c.index-as_slice-n.is no_job
    ∙ ap (λ jobs. get_or jobs c.args.n no_job) (c.as_slice-2.ensures ∙ ap (λ p. p.jobs) c.plan.view_is))
    (c.as_slice-3.ensures ∙ c.in_ok-packages.ensures ∙ ap (filter_map (λ d. package_in (settled c.args.plan.now c.args.kept.now c.args.outcomes.now d))) (c.as_slice.ensures ∙ c.in_ok-nodes.ensures.nodes))
    c.bake.ensures.built
