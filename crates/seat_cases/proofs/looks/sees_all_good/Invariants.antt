use Rattle.std.proofs.Common.{◌≡◌, true, take}
use Rattle.std.specs.List.{list_all}
use Rattle.claim_table.specs.Seats.{IsOf, is_known}
use Rattle.seat_cases.proofs.looks.sees_all_good.Given as goal

abbrev pub invariant-loop-edge : goal.invariant-loop-edge
invariant-loop-edge l = record {
  seat : IsOf l.table l.seat;
  shares : l.seat.view.shares ≡ l.fn.seat.view.shares;
  holds : l.seat.view.holds ≡ l.fn.seat.view.holds;
  known : list_all (λ edge. is_known l.kept l.seat.view edge.to) (take l.edge-index l.edges) ≡ true;
}
