use Rattle.std.proofs.Common.{◌∙◌, sym}
use Rattle.plan_maker.specs.Lost.{lost_at}
use Rattle.plan_maker.proofs.Losing.{first_here}
use Rattle.plan_maker.proofs.lost.first_lost_of.Goals as goal

pub returns-then-is_some-clause-lost : goal.returns-then-is_some-clause-lost
returns-then-is_some-clause-lost c =
    first_here (λ target. lost_at c.args.port.now target.at) c.args.targets.now c.loop-target.target-index c.target-item.result c.in_ok-lost.lost
    c.loop-target-test.true c.target-item.is c.in_ok-lost.ensures.lost (sym c.is_some.ensures ∙ c.if-is_some.true) c.loop-target.invariant
