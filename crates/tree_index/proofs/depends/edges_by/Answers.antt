use Rattle.std.proofs.Common.{arith}
use Rattle.tree_index.specs.Depends.{numbers_of}
use Rattle.tree_index.proofs.Depending.{edges_more, edges_all}
use Rattle.tree_index.proofs.depends.edges_by.Goals as goal

pub loop-kind-preserved : goal.loop-kind-preserved
loop-kind-preserved c = λ count all.
    edges_more (numbers_of count c.args.targets.now) c.as_slice-kind-items.result.now c.loop-kind.kind-index _ c.loop-kind.edges c.push_edges.new.found c.loop-kind-test.true
    (c.in_ok-push_edges.ensures count all) (c.loop-kind.invariant count all)

pub returns : goal.returns
returns c = λ count all.
    edges_all count c.args.targets.now c.as_slice-kind-items.result.now c.loop-kind.kind-index c.loop-kind.edges (omega arith) c.as_slice-kind-items.ensures (c.loop-kind.invariant count all)
