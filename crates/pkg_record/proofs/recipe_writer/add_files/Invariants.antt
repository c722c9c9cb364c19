use Rattle.std.proofs.Common.{take}
use Rattle.std.specs.List.{flat_map}
use Rattle.bulk_model.specs.Lines.{file_piece}
use Rattle.pkg_record.specs.Hashing.{Takes}
use Rattle.pkg_record.proofs.recipe_writer.add_files.Given as goal

abbrev pub invariant-loop-file : goal.invariant-loop-file
invariant-loop-file l = Takes l.initial.hasher (flat_map file_piece (take l.file-index l.files)) l.hasher
