use Rattle.std.proofs.Common.{◌≡◌, map}
use Rattle.std.specs.List.{filter_map, range_with_len}
use Rattle.std.specs.String.{string_bytes}
use Rattle.status_lists.specs.Entries.{entry_in}
use Rattle.status_lists.specs.Fates.{fate_in}
use Rattle.status_lists.proofs.entries.entries.Given as goal

abbrev pub invariant-loop-n : goal.invariant-loop-n
invariant-loop-n l =
    map string_bytes l.entries.items
    ≡ filter_map (λ n. entry_in l.part l.plan n (fate_in l.fates n)) (range_with_len 0 l.n)
