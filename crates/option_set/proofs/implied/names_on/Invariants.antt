use Rattle.std.proofs.Common.{◌≡◌, take}
use Rattle.option_set.specs.Implied.{names_on}
use Rattle.option_set.proofs.implied.names_on.Given as goal

abbrev pub invariant-loop-switch : goal.invariant-loop-switch
invariant-loop-switch l = l.found ≡ names_on (take l.switch-index l.switches)
