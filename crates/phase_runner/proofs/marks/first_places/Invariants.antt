use Rattle.phase_runner.specs.Marks.{ArePlaces}
use Rattle.phase_runner.proofs.marks.first_places.Given as goal

abbrev pub invariant-loop-at : goal.invariant-loop-at
invariant-loop-at l = ArePlaces l.at l.packages l.places
