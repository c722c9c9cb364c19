use Rattle.std.proofs.Common.{take}
use Rattle.stale_check.specs.Placing.{ArePlaces}
use Rattle.stale_check.proofs.numbering.place_packages.Given as goal

abbrev pub invariant-loop-at : goal.invariant-loop-at
invariant-loop-at l = ArePlaces (take l.at l.members) l.places
