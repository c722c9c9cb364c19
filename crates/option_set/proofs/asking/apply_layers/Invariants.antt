use Rattle.std.proofs.Common.{◌≡◌, take}
use Rattle.option_set.specs.Stack.{layered_switches}
use Rattle.option_set.proofs.asking.apply_layers.Given as goal

abbrev pub invariant-loop-name : goal.invariant-loop-name
invariant-loop-name l = l.found ≡ layered_switches l.stack (take l.name-index l.names)
