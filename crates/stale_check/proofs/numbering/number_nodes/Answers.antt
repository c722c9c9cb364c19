use Rattle.tree_index.specs.declared.node.NodeInfo.{NodeInfo}
use Rattle.stale_check.proofs.Keying.{keyed_none, keyed_at}
use Rattle.stale_check.proofs.numbering.number_nodes.Goals as goal

pub loop-at-init : goal.loop-at-init
loop-at-init c = keyed_none (λ (node : NodeInfo). node.node) c.new-numbers.result c.new-numbers.ensures

pub loop-at-preserved : goal.loop-at-preserved
loop-at-preserved c =
    keyed_at (λ (node : NodeInfo). node.node) c.args.nodes.now c.loop-at.at c.index-nodes-at.result c.in_ok-copy.field-0 c.loop-at.numbers c.put_new.new.numbers c.loop-at-test.true
    c.in_ok-copy.ensures c.loop-at.invariant c.in_ok-put_new.ensures
