use Rattle.std.proofs.Common.{◌≡◌, length}
use Rattle.claim_table.specs.Seats.{IsOf}
use Rattle.seat_cases.specs.Seating.{Holds}
use Rattle.seat_cases.proofs.two_seats.take_steps.Given as goal

abbrev pub invariant-loop-i : goal.invariant-loop-i
invariant-loop-i l = record {
  p : IsOf l.table l.p;
  q : IsOf l.table l.q;
  held_p : Holds l.table l.p l.of_p;
  held_q : Holds l.table l.q l.of_q;
  shares_p : l.p.view.shares ≡ l.fn.p.view.shares;
  shares_q : l.q.view.shares ≡ l.fn.q.view.shares;
  answers : length l.answers ≡ length l.steps;
}
