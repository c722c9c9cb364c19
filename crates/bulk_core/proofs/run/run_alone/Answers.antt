use Rattle.std.proofs.Common.{◌≡◌, ◌++◌, ℕ, [], Option, None, List, replicate, length, ap, ◌∙◌}
use Rattle.std.specs.Prelude.{Result, Ok, Err, IfOk}
use Rattle.bulk_model.specs.Order.{order}
use Rattle.bulk_model.specs.Results.{bakes_by}
use Rattle.bulk_core.specs.Builder.{names_at}
use Rattle.bulk_core.proofs.Alone.{nothing_right, all_jobs, all_left, are_left, began_alone}
use Rattle.bulk_core.proofs.Ending.{began_none}
use Rattle.bulk_core.proofs.run.run_alone.Goals as goal

on_ok : {X E : Type 0} (P Q : X → Type 0) (r : Result X E) → ((x : X) → P x → Q x) → IfOk r P → IfOk r Q
on_ok P Q (Ok x) f h = f x h
on_ok P Q (Err e) f h = h

nones_of : {X : Type 0} {xs : List (Option X)} {n m : ℕ} → xs ≡ replicate n None → n ≡ m → xs ≡ replicate m None
nones_of e f = e ∙ ap (λ k. replicate k None) f

pub returns-in_err-given-clause-begun : goal.returns-in_err-given-clause-begun
returns-in_err-given-clause-begun g c = began_none c.args.plan.now c.args.kept.now [] (g.B.Baking.begun c.args.baker.now)

pub returns-clause-told : goal.returns-clause-told
returns-clause-told g c tells =
    c.run_from.ensures.told tells
    (nothing_right c.args.plan.now c.args.kept.now c.in_ok-given.given.items (nones_of c.in_ok-given.ensures (c.len.ensures ∙ ap (λ p. length p.jobs) c.plan.view_is)) (bakes_by g.B.Ways.Ways.runs c.args.plan.now))

pub returns-clause-jobs : goal.returns-clause-jobs
returns-clause-jobs g c =
    on_ok _ _ c.run_from.result
    (λ results. all_jobs c.args.plan.now c.args.kept.now c.in_ok-given.given.items (nones_of c.in_ok-given.ensures (c.len.ensures ∙ ap (λ p. length p.jobs) c.plan.view_is)) results.statuses)
    c.run_from.ensures.jobs

pub returns-clause-left : goal.returns-clause-left
returns-clause-left g c =
    on_ok _ _ c.run_from.result
    (λ results. are_left c.args.plan.now c.args.kept.now c.in_ok-given.given.items (nones_of c.in_ok-given.ensures (c.len.ensures ∙ ap (λ p. length p.jobs) c.plan.view_is)) results.statuses
    (order c.args.plan.now c.args.kept.now results.statuses))
    c.run_from.ensures.left

pub returns-clause-baked : goal.returns-clause-baked
returns-clause-baked g c =
    on_ok _ _ c.run_from.result
    (λ results h. h ∙ ap (λ numbers. g.B.Baking.begun c.args.baker.now ++ names_at c.args.plan.now numbers)
    (all_left c.args.plan.now c.args.kept.now c.in_ok-given.given.items (nones_of c.in_ok-given.ensures (c.len.ensures ∙ ap (λ p. length p.jobs) c.plan.view_is)) (order c.args.plan.now c.args.kept.now results.statuses)))
    c.run_from.ensures.baked

pub returns-clause-begun : goal.returns-clause-begun
returns-clause-begun g c =
    began_alone c.args.plan.now c.args.kept.now c.in_ok-given.given.items (nones_of c.in_ok-given.ensures (c.len.ensures ∙ ap (λ p. length p.jobs) c.plan.view_is))
    (g.B.Baking.begun c.args.baker.now) (g.B.Baking.begun c.run_from.new.baker) c.run_from.ensures.begun
