use Rattle.std.proofs.Common.{◌≡◌, length}
use Rattle.desk_cases.specs.Seating.{HasShares}
use Rattle.desk_cases.proofs.two_seats.take_steps.Given as goal

abbrev pub invariant-loop-i : goal.invariant-loop-i
invariant-loop-i g l = record {
  p : HasShares l.desk l.fn.p.view.shares l.p;
  q : HasShares l.desk l.fn.q.view.shares l.q;
  answers : length l.answers ≡ length l.steps;
}
