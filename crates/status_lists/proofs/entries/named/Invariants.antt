use Rattle.std.proofs.Common.{◌≡◌, map, take}
use Rattle.std.specs.String.{string_bytes}
use Rattle.bulk_model.specs.Lists.{node_words}
use Rattle.status_lists.proofs.entries.named.Given as goal

abbrev pub invariant-loop-n : goal.invariant-loop-n
invariant-loop-n l =
    map string_bytes l.entries.items ≡ map (node_words l.plan) (take l.n-index l.numbers)
