use Rattle.std.proofs.Common.{◌≤◌, length, arith}
use Rattle.plan_maker.proofs.Leading.{are_needed}
use Rattle.plan_maker.proofs.outline.few_nodes.Goals as goal

pub returns-clause-needed : goal.returns-clause-needed
returns-clause-needed c =
    let few : length c.in_ok-nodes.nodes ≤ 6144 = omega (arith, c.if-len-most.false, c.most.ensures, c.len.ensures) in
    are_needed c.args.index.now c.args.wanted.now c.in_ok-nodes.nodes c.in_ok-nodes.ensures.reach c.in_ok-nodes.ensures.within few
