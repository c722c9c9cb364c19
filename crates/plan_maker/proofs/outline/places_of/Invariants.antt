use Rattle.std.proofs.Common.{◌≡◌, take, map}
use Rattle.plan_maker.specs.PlanEdges.{place_in}
use Rattle.plan_maker.proofs.outline.places_of.Given as goal

abbrev pub invariant-loop-n : goal.invariant-loop-n
invariant-loop-n l = l.places ≡ map (place_in l.nodes) (take l.n-index l.wanted)
