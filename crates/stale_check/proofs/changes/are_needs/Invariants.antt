use Rattle.std.proofs.Common.{◌≡◌, drop}
use Rattle.std.specs.Cmp.Lexicographic.{pointwise}
use Rattle.stale_check.specs.Own.{is_need}
use Rattle.stale_check.proofs.changes.are_needs.Given as goal

abbrev pub invariant-loop-at : goal.invariant-loop-at
invariant-loop-at l = pointwise is_need l.recorded l.depends ≡ pointwise is_need (drop l.at l.recorded) (drop l.at l.depends)
