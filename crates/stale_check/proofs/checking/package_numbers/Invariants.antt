use Rattle.std.proofs.Common.{◌≡◌, take}
use Rattle.std.specs.List.{filter_map}
use Rattle.stale_check.specs.Own.{number_of}
use Rattle.stale_check.proofs.checking.package_numbers.Given as goal

abbrev pub invariant-loop-made : goal.invariant-loop-made
invariant-loop-made l = l.found.items ≡ filter_map (number_of l.index.nodes) (take l.made-index l.made-items)
