use Rattle.std.proofs.Common.{◌≡◌, map, take}
use Rattle.bulk_model.specs.declared.depend.Recorded.{Recorded}
use Rattle.catalogue.proofs.entry.names_of.Given as goal

abbrev pub invariant-loop-depend : goal.invariant-loop-depend
invariant-loop-depend l =
    l.names ≡ map (λ (depend : Recorded). depend.name) (take l.depend-index l.depends)
