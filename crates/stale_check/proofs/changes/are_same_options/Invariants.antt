use Rattle.std.proofs.Common.{◌≡◌, drop}
use Rattle.std.specs.Cmp.Lexicographic.{pointwise}
use Rattle.stale_check.specs.Own.{is_same_option}
use Rattle.stale_check.proofs.changes.are_same_options.Given as goal

abbrev pub invariant-loop-at : goal.invariant-loop-at
invariant-loop-at l = pointwise is_same_option l.a l.b ≡ pointwise is_same_option (drop l.at l.a) (drop l.at l.b)
