use Rattle.std.proofs.Common.{◌≡◌, take}
use Rattle.std.specs.List.{filter_map}
use Rattle.stale_check.specs.Stale.{stale_at}
use Rattle.stale_check.proofs.files.in_order.Given as goal

abbrev pub invariant-loop-file : goal.invariant-loop-file
invariant-loop-file l = l.list ≡ filter_map (stale_at l.reasons) (take l.file-index l.file-items)
