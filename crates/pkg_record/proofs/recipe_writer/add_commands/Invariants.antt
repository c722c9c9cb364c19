use Rattle.std.proofs.Common.{take}
use Rattle.std.specs.List.{flat_map}
use Rattle.bulk_model.specs.Recipe.{command_lines}
use Rattle.pkg_record.specs.Hashing.{Takes}
use Rattle.pkg_record.proofs.recipe_writer.add_commands.Given as goal

abbrev pub invariant-loop-command : goal.invariant-loop-command
invariant-loop-command l = Takes l.initial.hasher (flat_map command_lines (take l.command-index l.commands)) l.hasher
