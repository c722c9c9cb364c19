use Rattle.dep_graph.proofs.Turning.{kind_more}
use Rattle.dep_graph.proofs.turned.turn_node.Goals as goal

pub loop-kind-preserved : goal.loop-kind-preserved
loop-kind-preserved c =
    kind_more c.args.n c.loop-kind.kind c.args.edges.now c.args.lists.now.items c.loop-kind.lists.items c.turn_kind.new.lists.items c.loop-kind.invariant c.in_ok-turn_kind.ensures
