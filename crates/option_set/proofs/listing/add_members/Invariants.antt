use Rattle.std.proofs.Common.{◌≡◌, ◌++◌, take}
use Rattle.option_set.specs.Defined.{members_of}
use Rattle.option_set.proofs.listing.add_members.Given as goal

abbrev pub invariant-loop-group : goal.invariant-loop-group
invariant-loop-group l = l.found ≡ l.fn.found ++ members_of (take l.group-index l.groups)
