use Rattle.std.proofs.Common.{◌≡◌, sym, subst, map}
use Rattle.dep_graph.specs.Graphs.{IsGraph}
use Rattle.plan_maker.specs.Needed.{needs_of}
use Rattle.plan_maker.proofs.Leading.{needs_graph, all_taken}
use Rattle.plan_maker.proofs.needed.needs.Goals as goal

pub returns-clause-graph : goal.returns-clause-graph
returns-clause-graph c =
    let items : c.as_slice-node-items.result.now ≡ c.index.inside.nodes = c.as_slice-node-items.ensures in
    let all : c.loop-node.lists ≡ map needs_of c.index.inside.nodes = all_taken needs_of c.as_slice-node-items.result.now c.index.inside.nodes c.loop-node.node-index c.loop-node.lists c.loop-node-test.false items c.loop-node.invariant in
    subst IsGraph (sym all) (needs_graph c.index.inside.nodes c.index.invariant.tree.few c.index.invariant.range)
