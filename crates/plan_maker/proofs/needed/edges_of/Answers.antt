use Rattle.plan_maker.specs.Needed.{edge_of}
use Rattle.plan_maker.proofs.Collecting.{found_in_loop}
use Rattle.plan_maker.proofs.needed.edges_of.Goals as goal

pub loop-target-preserved : goal.loop-target-preserved
loop-target-preserved c =
    found_in_loop edge_of c.args.targets.now c.loop-target.target-index c.target-item.result c.loop-target.edges c.push_edge.new.edges c.edge_of.result
    c.loop-target-test.true c.target-item.is c.loop-target.invariant c.edge_of.ensures c.in_ok-push_edge.ensures
