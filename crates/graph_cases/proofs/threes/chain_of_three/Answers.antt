use Rattle.graph_cases.proofs.ThreePorts.{is_chain}
use Rattle.graph_cases.proofs.threes.chain_of_three.Goals as goal

pub invariant_of-result : goal.invariant_of-result
invariant_of-result c =
    is_chain c.in_ok-three_jobs.field-0 c.in_ok-chain_edges.field-0 c.in_ok-three_kept.field-0 c.new.result c.new-2.result c.in_ok-none.field-0
    c.in_ok-three_jobs.ensures c.in_ok-three_kept.ensures c.new.ensures c.new-2.ensures c.in_ok-none.ensures c.args.first c.args.second c.in_ok-chain_edges.ensures
