use Rattle.std.proofs.Common.{◌≡◌, ◌<◌, [], length, get_or, ap, sym, ◌∙◌, arith}
use Rattle.std.specs.List.{list_all}
use Rattle.std.proofs.lemmas.List.{get_or_read}
use Rattle.std.proofs.lemmas.List.Folds.{list_all-map}
use Rattle.bulk_model.specs.declared.plan.Edge.{Edge}
use Rattle.bulk_model.specs.PlanView.{edges_from}
use Rattle.bulk_model.specs.Fit.{is_there}
use Rattle.case_plans.proofs.kept.all_there.Goals as goal

pub returns : goal.returns
returns c =
    let edges : c.as_slice.result.now ≡ c.args.plan.now.edges = c.as_slice.ensures ∙ ap (λ p. p.edges) c.plan.view_is in
    let inside : c.args.n < length c.as_slice.result.now =
    (let n : c.args.n < length c.args.plan.now.jobs = c.requires in
    let jobs : length c.plan.inside.jobs ≡ length c.args.plan.now.jobs = ap (λ p. length p.jobs) c.plan.view_is in
    let size : length c.plan.inside.edges ≡ length c.plan.inside.jobs = c.plan.invariant.edges in
    let same : length c.as_slice.result.now ≡ length c.plan.inside.edges = ap length c.as_slice.ensures in omega arith) in
    c.are_there.ensures
    ∙ ap (list_all (λ (edge : Edge). is_there c.args.kept.now c.args.outcomes.now edge.to))
    (c.as_slice-2.ensures ∙ get_or_read c.as_slice.result.now c.args.n c.index-as_slice-n.result inside c.index-as_slice-n.is [] ∙ ap (λ lists. get_or lists c.args.n []) edges)
    ∙ sym (list_all-map (is_there c.args.kept.now c.args.outcomes.now) (λ (edge : Edge). edge.to) (edges_from c.args.plan.now c.args.n))
