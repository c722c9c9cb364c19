use Rattle.std.proofs.Common.{◌≡◌, take}
use Rattle.std.specs.Prelude.{map}
use Rattle.bulk_model.specs.Views.{need_of}
use Rattle.record_cases.proofs.recipes.needs.Given as goal

abbrev pub invariant-loop-depend : goal.invariant-loop-depend
invariant-loop-depend l = l.found ≡ map need_of (take l.depend-index l.depends)
