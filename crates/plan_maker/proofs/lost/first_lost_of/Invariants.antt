use Rattle.std.proofs.Common.{◌≡◌, drop}
use Rattle.plan_maker.specs.Lost.{first_of, lost_at}
use Rattle.plan_maker.proofs.lost.first_lost_of.Given as goal

abbrev pub invariant-loop-target : goal.invariant-loop-target
invariant-loop-target l = first_of (λ target. lost_at l.port target.at) (drop l.target-index l.targets) ≡ first_of (λ target. lost_at l.port target.at) l.targets
