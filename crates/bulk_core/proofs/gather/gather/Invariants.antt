use Rattle.std.proofs.Common.{◌≡◌, take}
use Rattle.std.specs.List.{filter_map}
use Rattle.bulk_model.specs.Results.{package_in}
use Rattle.bulk_core.specs.Turns.{settled}
use Rattle.bulk_core.proofs.gather.gather.Given as goal

abbrev pub invariant-loop-d : goal.invariant-loop-d
invariant-loop-d l = l.packages ≡ filter_map (λ d. package_in (settled l.plan l.kept l.outcomes d)) (take l.d-index l.nodes)
