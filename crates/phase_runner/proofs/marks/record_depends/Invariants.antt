use Rattle.std.proofs.Common.{◌≡◌, take, map}
use Rattle.bulk_model.specs.Bake.{recorded}
use Rattle.phase_runner.proofs.marks.record_depends.Given as goal

abbrev pub invariant-loop-depend : goal.invariant-loop-depend
invariant-loop-depend l = l.found ≡ map (recorded l.packages) (take l.depend-index l.depend-items)
