use Rattle.std.proofs.Common.{◌≡◌}
use Rattle.std.specs.Prelude.{filter}
use Rattle.std.specs.List.{range_with_len}
use Rattle.bulk_model.specs.Flags.{flag}
use Rattle.stale_check.proofs.checking.flagged.Given as goal

abbrev pub invariant-loop-n : goal.invariant-loop-n
invariant-loop-n l = l.numbers ≡ filter (flag l.flags) (range_with_len 0 l.n)
