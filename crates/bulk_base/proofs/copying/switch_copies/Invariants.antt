use Rattle.std.proofs.Common.{◌≡◌, take}
use Rattle.bulk_base.proofs.copying.switch_copies.Given as goal

abbrev pub invariant-loop-switch : goal.invariant-loop-switch
invariant-loop-switch l = l.found ≡ take l.switch-index l.switches
