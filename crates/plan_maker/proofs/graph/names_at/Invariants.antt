use Rattle.std.proofs.Common.{◌≡◌, take, get_or, map}
use Rattle.plan_maker.specs.Jobs.{node_at}
use Rattle.plan_maker.proofs.graph.names_at.Given as goal

abbrev pub invariant-loop-place : goal.invariant-loop-place
invariant-loop-place l = l.names ≡ map (λ place. (node_at l.index (get_or l.nodes place 0)).node) (take l.place-index l.places)
