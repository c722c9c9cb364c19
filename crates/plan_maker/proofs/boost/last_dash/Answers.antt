use Rattle.std.proofs.Common.{◌≡◌, ◌∙◌, ◌-◌, suc, ap, drop, arith}
use Rattle.plan_maker.specs.Boosts.{has_byte}
use Rattle.plan_maker.proofs.BaseNames.{base_at, base_none}
use Rattle.plan_maker.proofs.boost.last_dash.Goals as goal

pub returns-then-name-at-eq45-clause-base : goal.returns-then-name-at-eq45-clause-base
returns-then-name-at-eq45-clause-base c =
    let next : suc (c.loop-at.at - 1) ≡ c.loop-at.at = omega arith in
    base_at c.args.name.now (c.loop-at.at - 1) (omega arith) c.if-name-at-eq45.true (ap (λ k. has_byte 45 (drop k c.args.name.now)) next ∙ c.loop-at.invariant.none)

pub returns-clause-base : goal.returns-clause-base
returns-clause-base c =
    let start : 0 ≡ c.loop-at.at = omega arith in
    base_none c.args.name.now (ap (λ k. has_byte 45 (drop k c.args.name.now)) start ∙ c.loop-at.invariant.none)
