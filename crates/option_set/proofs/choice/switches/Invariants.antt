use Rattle.std.proofs.Common.{◌≡◌, take}
use Rattle.option_set.specs.Chosen.{switches}
use Rattle.option_set.proofs.choice.switches.Given as goal

abbrev pub invariant-loop-name : goal.invariant-loop-name
invariant-loop-name l = l.found ≡ switches (take l.name-index l.options) l.on
