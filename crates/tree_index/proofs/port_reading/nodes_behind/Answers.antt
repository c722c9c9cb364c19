use Rattle.tree_index.proofs.NodesSoFar.{nodes_more}
use Rattle.tree_index.proofs.port_reading.nodes_behind.Goals as goal

pub loop-flavor-preserved : goal.loop-flavor-preserved
loop-flavor-preserved c =
    nodes_more c.args.try_broken c.args.origin.now c.args.vars.now c.args.options.now c.args.default c.args.others.now c.loop-flavor.nodes c.push-in-loop-flavor.new.self c.loop-flavor.flavor-index c.flavor-item.result c.in_ok-node.node
    c.loop-flavor-test.true c.flavor-item.is c.in_ok-node.ensures.ok c.in_ok-push-2.ensures.ok c.loop-flavor.invariant
