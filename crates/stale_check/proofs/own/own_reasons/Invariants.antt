use Rattle.std.proofs.Common.{◌≡◌, map, take}
use Rattle.stale_check.specs.Own.{own}
use Rattle.stale_check.proofs.own.own_reasons.Given as goal

abbrev pub invariant-loop-made : goal.invariant-loop-made
invariant-loop-made l = l.reasons.items ≡ map (own l.index l.asked l.recipes) (take l.made-index l.members)
