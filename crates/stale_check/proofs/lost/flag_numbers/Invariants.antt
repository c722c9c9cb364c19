use Rattle.std.proofs.Common.{take}
use Rattle.stale_check.specs.Recording.{AreFlags}
use Rattle.stale_check.proofs.lost.flag_numbers.Given as goal

abbrev pub invariant-loop-number : goal.invariant-loop-number
invariant-loop-number l = AreFlags l.count (take l.number-index l.numbers) l.flags
