use Rattle.std.proofs.Common.{take}
use Rattle.std.specs.List.{flat_map}
use Rattle.bulk_model.specs.Lines.{line}
use Rattle.pkg_record.specs.Hashing.{Takes}
use Rattle.pkg_record.proofs.recipe_writer.add_command.Given as goal

abbrev pub invariant-loop-word : goal.invariant-loop-word
invariant-loop-word l = Takes l.initial.hasher (flat_map line (take l.word-index l.words)) l.hasher
