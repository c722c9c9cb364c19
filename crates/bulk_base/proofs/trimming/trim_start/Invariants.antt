use Rattle.std.proofs.Common.{◌≡◌, drop}
use Rattle.bulk_base.specs.Trim.{trim_start}
use Rattle.bulk_base.proofs.trimming.trim_start.Given as goal

abbrev pub invariant-loop-at : goal.invariant-loop-at
invariant-loop-at l = trim_start (drop l.at l.text) ≡ trim_start l.text
