use Rattle.std.proofs.Common.{◌≡◌, drop}
use Rattle.port_name.specs.Sets.{is_among}
use Rattle.option_set.specs.Refused.{first_some, wrong}
use Rattle.option_set.proofs.group.first_wrong.Given as goal

abbrev pub invariant-loop-group : goal.invariant-loop-group
invariant-loop-group l = first_some (wrong l.kind (is_among l.on)) (drop l.group-index l.groups) ≡ first_some (wrong l.kind (is_among l.on)) l.groups
