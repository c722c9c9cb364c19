use Rattle.std.proofs.Common.{◌≡◌, take}
use Rattle.std.specs.Prelude.{filter}
use Rattle.std.specs.FinMap as map
use Rattle.option_set.proofs.implied.held.Given as goal

abbrev pub invariant-loop-name : goal.invariant-loop-name
invariant-loop-name l = l.found ≡ filter (map.contains_key l.set) (take l.name-index l.names)
