use Rattle.tree_index.proofs.Numbered.{no_numbers, numbering_at}
use Rattle.tree_index.proofs.node_numbers.number_nodes.Goals as goal

pub loop-at-init : goal.loop-at-init
loop-at-init c = no_numbers c.new-numbers.result c.new-numbers.ensures

pub loop-at-preserved : goal.loop-at-preserved
loop-at-preserved c =
    numbering_at c.args.nodes.now c.loop-at.at c.index-nodes-at.result c.loop-at.numbers c.put_node.new.numbers c.loop-at-test.true c.index-nodes-at.is c.loop-at.invariant
    c.in_ok-put_node.ensures
