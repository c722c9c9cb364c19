use Rattle.std.proofs.Common.{◌≡◌, take}
use Rattle.std.specs.List.{flat_map}
use Rattle.option_set.specs.Implied.{implied_by}
use Rattle.option_set.proofs.implied.implied_by_all.Given as goal

abbrev pub invariant-loop-option : goal.invariant-loop-option
invariant-loop-option l = l.found ≡ flat_map (implied_by l.vars) (take l.option-index l.options)
