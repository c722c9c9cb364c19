use Rattle.std.proofs.Common.{◌≡◌, ◌++◌, drop}
use Rattle.std.specs.Option.{option_map}
use Rattle.tiny_shell.specs.Programs.{all_of}
use Rattle.tiny_shell.proofs.program.contents_of.Given as goal

abbrev pub invariant-loop-file : goal.invariant-loop-file
invariant-loop-file l =
    option_map (λ more. l.all.items ++ more) (all_of (drop l.file-index l.files) l.folder)
    ≡ all_of l.files l.folder
