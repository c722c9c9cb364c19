use Rattle.std.proofs.Common.{◌≡◌, take}
use Rattle.std.specs.Prelude.{map}
use Rattle.option_set.specs.Defined.{group_of}
use Rattle.option_set.proofs.defining.groups_in.Given as goal

abbrev pub invariant-loop-name : goal.invariant-loop-name
invariant-loop-name l = l.found ≡ map (group_of l.vars l.prefix) (take l.name-index l.name-items)
