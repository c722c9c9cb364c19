use Rattle.std.proofs.Common.{◌≡◌, ◌<◌, length, sym, subst}
use Rattle.std.specs.List.{All}
use Rattle.std.proofs.lemmas.Result.{IfOk-weaker}
use Rattle.bulk_model.specs.Installs.{installs}
use Rattle.dep_graph.proofs.Installing.{installed_below}
use Rattle.dep_graph.proofs.installed.Collector.collect.Goals as goal

pub returns-clause-below : goal.returns-clause-below
returns-clause-below c =
    IfOk-weaker c.gather-nodes.result (λ nodes. nodes ≡ installs c.args.plan.now c.args.n) (All (λ d. d < length c.args.plan.now.jobs))
    (λ nodes e. subst (All (λ d. d < length c.args.plan.now.jobs)) (sym e) (installed_below c.args.plan.now c.args.n)) c.gather-nodes.ensures.nodes
