use Rattle.std.proofs.Common.{◌≡◌, take}
use Rattle.std.specs.Prelude.{filter}
use Rattle.port_name.specs.Sets.{is_among}
use Rattle.option_set.proofs.group.among.Given as goal

abbrev pub invariant-loop-name : goal.invariant-loop-name
invariant-loop-name l = l.found ≡ filter (is_among l.set) (take l.name-index l.names)
