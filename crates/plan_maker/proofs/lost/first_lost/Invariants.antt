use Rattle.std.proofs.Common.{◌≡◌, drop}
use Rattle.plan_maker.specs.Lost.{first_of, lost_of}
use Rattle.plan_maker.specs.Jobs.{node_at}
use Rattle.plan_maker.proofs.lost.first_lost.Given as goal

abbrev pub invariant-loop-n : goal.invariant-loop-n
invariant-loop-n l = first_of (λ n. lost_of (node_at l.index n)) (drop l.n-index l.nodes) ≡ first_of (λ n. lost_of (node_at l.index n)) l.nodes
