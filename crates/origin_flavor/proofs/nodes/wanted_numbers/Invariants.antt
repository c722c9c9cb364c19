use Rattle.std.proofs.Common.{◌≡◌, take}
use Rattle.origin_flavor.specs.Nodes.{numbers_from, is_wanted}
use Rattle.origin_flavor.proofs.nodes.wanted_numbers.Given as goal

abbrev pub invariant-loop-at : goal.invariant-loop-at
invariant-loop-at l = l.found ≡ numbers_from 0 (is_wanted l.all l.every_flavor l.answers) (take l.at l.nodes)
