use Rattle.std.proofs.Common.{◌≡◌, map, take}
use Rattle.std.specs.String.{string_bytes}
use Rattle.bulk_model.specs.Lists.{stale_entry}
use Rattle.status_lists.proofs.entries.stale_entries.Given as goal

abbrev pub invariant-loop-stale : goal.invariant-loop-stale
invariant-loop-stale l =
    map string_bytes l.entries.items ≡ map stale_entry (take l.stale-index l.stales)
