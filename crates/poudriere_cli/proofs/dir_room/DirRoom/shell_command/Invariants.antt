use Rattle.std.proofs.Common.{◌≡◌, ◌∷◌, take, codes}
use Rattle.std.specs.Process.{command_args, command_program}
use Rattle.std.specs.String.{string_bytes}
use Rattle.poudriere_cli.specs.Shell.{in_folder}
use Rattle.poudriere_cli.proofs.dir_room.DirRoom.shell_command.Given as goal

abbrev pub invariant-loop-word : goal.invariant-loop-word
invariant-loop-word g l = record {
  program : command_program l.command ≡ codes "/bin/sh";
  words : command_args l.command ≡ codes "-c" ∷ in_folder ∷ string_bytes l.fn.self.folder ∷ take l.word-index l.words;
}
