use Rattle.std.proofs.Common.{◌≡◌, ℕ, ◌<◌, get_or, take, false}
use Rattle.std.specs.FinMap as map
use Rattle.bulk_base.proofs.path_map.PathMap.has_above.Given as goal

-- no folder of the path that ends before a place has a value
abbrev pub invariant-loop-at : goal.invariant-loop-at
invariant-loop-at g l = (k : ℕ) → k < l.at → get_or l.path k 0 ≡ 47 → map.contains_key l.self (take k l.path) ≡ false
