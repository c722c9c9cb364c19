use Rattle.std.proofs.Common.{◌≡◌, take}
use Rattle.stale_check.specs.Stale.{all_asked}
use Rattle.stale_check.proofs.checking.ask_for_all.Given as goal

abbrev pub invariant-loop-file : goal.invariant-loop-file
invariant-loop-file l = l.list ≡ all_asked (take l.file-index l.files)
