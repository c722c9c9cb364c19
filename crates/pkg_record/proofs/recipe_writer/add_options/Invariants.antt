use Rattle.std.proofs.Common.{take}
use Rattle.std.specs.List.{flat_map}
use Rattle.bulk_model.specs.Lines.{option_line}
use Rattle.pkg_record.specs.Hashing.{Takes}
use Rattle.pkg_record.proofs.recipe_writer.add_options.Given as goal

abbrev pub invariant-loop-option : goal.invariant-loop-option
invariant-loop-option l = Takes l.initial.hasher (flat_map option_line (take l.option-index l.options)) l.hasher
