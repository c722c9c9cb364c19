use Rattle.tree_index.specs.Twins.{IsSeen, IsFirstTwins}
use Rattle.tree_index.proofs.twins.first_twins.Given as goal

abbrev pub invariant-loop-at : goal.invariant-loop-at
invariant-loop-at l = record {
  seen : IsSeen l.nodes l.at l.seen;
  found : IsFirstTwins l.nodes l.at l.found;
}
