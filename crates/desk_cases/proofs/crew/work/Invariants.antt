use Rattle.desk_cases.specs.Seating.{HasShares}
use Rattle.desk_cases.proofs.crew.work.Given as goal

abbrev pub invariant-loop : goal.invariant-loop
invariant-loop g l =
    (goal.iterator-loop g).can_next l.iterator' × (goal.iterator-loop g).is_finite l.iterator'
    × HasShares l.desk l.fn.worker.seat.view.shares l.worker.seat
