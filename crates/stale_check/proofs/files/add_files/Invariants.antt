use Rattle.std.proofs.Common.{◌≡◌, take}
use Rattle.stale_check.specs.Stale.{with_all}
use Rattle.stale_check.proofs.files.add_files.Given as goal

abbrev pub invariant-loop-file : goal.invariant-loop-file
invariant-loop-file l = l.reasons ≡ with_all l.reason l.initial.reasons (take l.file-index l.files)
