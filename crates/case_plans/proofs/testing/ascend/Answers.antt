use Rattle.std.proofs.Common.{◌≤◌, length, arith}
use Rattle.case_plans.proofs.Apart.{names_apart}
use Rattle.case_plans.proofs.testing.ascend.Goals as goal

pub returns : goal.returns
returns c t =
    let done : length c.args.jobs.now ≤ c.loop-n.n = c.loop-n-test.false in
    names_apart c.args.jobs.now (λ k l. c.loop-n.invariant k (omega arith))
