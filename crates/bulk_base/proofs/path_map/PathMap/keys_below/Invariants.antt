use Rattle.std.proofs.Common.{◌≡◌}
use Rattle.std.specs.Prelude.{map, filter}
use Rattle.bulk_base.specs.Path.{is_below}
use Rattle.bulk_base.proofs.path_map.PathMap.keys_below.Given as goal

abbrev pub invariant-loop-key : goal.invariant-loop-key
invariant-loop-key g l = l.keys ≡ filter (is_below l.folder) (map (λ e. e.0.now) l.yielded)
