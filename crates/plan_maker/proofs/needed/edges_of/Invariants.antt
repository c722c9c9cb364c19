use Rattle.std.proofs.Common.{◌≡◌, take}
use Rattle.std.specs.List.{filter_map}
use Rattle.plan_maker.specs.Needed.{edge_of}
use Rattle.plan_maker.proofs.needed.edges_of.Given as goal

abbrev pub invariant-loop-target : goal.invariant-loop-target
invariant-loop-target l = l.edges ≡ filter_map edge_of (take l.target-index l.targets)
