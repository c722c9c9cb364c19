use Rattle.std.specs.Option.{option_copied}
use Rattle.std.specs.FinMap as map
use Rattle.port_desc.proofs.Variables.{EntriesSoFar}
use Rattle.port_desc.proofs.dependencies.entries_of.Given as goal

abbrev pub invariant-loop-kind : goal.invariant-loop-kind
invariant-loop-kind l = EntriesSoFar (map.get l.vars) (option_copied l.flavor) l.on l.kind-items l.found.items l.kind-index
