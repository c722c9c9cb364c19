use Rattle.std.proofs.Common.{◌≡◌, [], take}
use Rattle.std.specs.Prelude.{map}
use Rattle.bulk_model.specs.Bake.{recorded}
use Rattle.one_port.proofs.packing.record_depends.Given as goal

abbrev pub invariant-loop-depend : goal.invariant-loop-depend
invariant-loop-depend l = l.found ≡ map (recorded []) (take l.depend-index l.depends)
