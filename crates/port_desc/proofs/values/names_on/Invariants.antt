use Rattle.std.proofs.Common.{◌≡◌, take}
use Rattle.port_desc.specs.Values.{names_on}
use Rattle.port_desc.proofs.values.names_on.Given as goal

abbrev pub invariant-loop-option : goal.invariant-loop-option
invariant-loop-option l = l.names ≡ names_on (take l.option-index l.options)
