use Rattle.std.proofs.Common.{◌≡◌, ◌++◌, drop}
use Rattle.tiny_shell.specs.Programs.{listed}
use Rattle.tiny_shell.proofs.program.listed.Given as goal

abbrev pub invariant-loop-path : goal.invariant-loop-path
invariant-loop-path l = l.list.items ++ listed (drop l.path-index l.paths) ≡ listed l.paths
