use Rattle.std.proofs.Common.{◌≡◌, ◌<◌, ℕ, length, get_or}
use Rattle.plan_maker.proofs.numbering.number_nodes.Given as goal

abbrev pub invariant-loop-at : goal.invariant-loop-at
invariant-loop-at l = record {
  size : length l.places.items ≡ l.count;
  numbered : (k : ℕ) → k < l.at → get_or l.places.items (get_or l.nodes k 0) 0 ≡ k;
}
