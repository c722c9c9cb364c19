use Rattle.seat_cases.specs.Seating.{IsIdle}
use Rattle.seat_cases.proofs.crew.work.Given as goal

abbrev pub invariant-loop-n : goal.invariant-loop-n
invariant-loop-n l = IsIdle l.table l.fn.worker.seat.view.shares l.worker.seat
