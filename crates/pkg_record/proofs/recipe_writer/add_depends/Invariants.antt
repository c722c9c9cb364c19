use Rattle.std.proofs.Common.{take}
use Rattle.std.specs.List.{flat_map}
use Rattle.bulk_model.specs.Recipe.{depend_line}
use Rattle.pkg_record.specs.Hashing.{Takes}
use Rattle.pkg_record.proofs.recipe_writer.add_depends.Given as goal

abbrev pub invariant-loop-depend : goal.invariant-loop-depend
invariant-loop-depend l = Takes l.initial.hasher (flat_map depend_line (take l.depend-index l.depends)) l.hasher
