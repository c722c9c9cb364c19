use Rattle.std.proofs.Common.{◌≡◌, ◌++◌, take}
use Rattle.std.specs.Prelude.{map}
use Rattle.option_set.specs.declared.defining.Group.{Group}
use Rattle.option_set.proofs.listing.add_names.Given as goal

abbrev pub invariant-loop-group : goal.invariant-loop-group
invariant-loop-group l = l.found ≡ l.fn.found ++ map (λ (group : Group). group.name) (take l.group-index l.groups)
