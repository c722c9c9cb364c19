use Rattle.std.proofs.Common.{◌≡◌}
use Rattle.claim_table.specs.Seats.{IsOf}
use Rattle.seat_cases.proofs.looks.sees_some_bad.Given as goal

abbrev pub invariant-loop-edge : goal.invariant-loop-edge
invariant-loop-edge l = record {
  seat : IsOf l.table l.seat;
  shares : l.seat.view.shares ≡ l.fn.seat.view.shares;
  holds : l.seat.view.holds ≡ l.fn.seat.view.holds;
}
