use Rattle.std.proofs.Common.{◌≡◌, take, map}
use Rattle.plan_maker.specs.Jobs.{node_at}
use Rattle.plan_maker.proofs.outline.reasons.Given as goal

abbrev pub invariant-loop-n : goal.invariant-loop-n
invariant-loop-n l = l.reasons ≡ map (λ n. (node_at l.index n).ignored) (take l.n-index l.nodes)
