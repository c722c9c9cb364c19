use Rattle.std.proofs.Common.{◌≡◌}
use Rattle.std.specs.Prelude.{map as each}
use Rattle.std.specs.Map.Iter.{deref_pair}
use Rattle.bulk_base.proofs.MapView.{view}
use Rattle.bulk_base.proofs.text_map.TextMap+Bytes.copy.Given as goal

abbrev pub invariant-loop-key : goal.invariant-loop-key
invariant-loop-key l = l.copied ≡ view (each deref_pair l.yielded)
