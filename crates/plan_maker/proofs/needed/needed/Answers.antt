use Rattle.std.proofs.Common.{◌≡◌, ◌∙◌}
use Rattle.std.proofs.lemmas.Result.{IfOk-weaker}
use Rattle.dep_graph.specs.Reached.{reach}
use Rattle.plan_maker.specs.Needed.{needs}
use Rattle.plan_maker.specs.Nodes.{AreNodes}
use Rattle.plan_maker.proofs.Leading.{needed_within, same_ok}
use Rattle.plan_maker.proofs.needed.needed.Goals as goal

pub returns-clause-within : goal.returns-clause-within
returns-clause-within c =
    let graph : c.in_ok-new.field-0 ≡ needs c.args.index.now = same_ok c.in_ok-new.field-0 c.in_ok-needs.field-0 c.in_ok-new.ensures ∙ c.in_ok-needs.ensures.lists in
    IfOk-weaker c.reach-2.result (λ nodes. nodes ≡ reach c.in_ok-new.field-0 c.as_slice.result.now) (AreNodes c.args.index.now)
    (λ nodes e. needed_within c.args.index.now c.args.wanted.now nodes (e ∙ (λ i. reach (graph i) (c.as_slice.ensures i)))) c.reach-2.ensures.nodes
