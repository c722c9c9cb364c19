use Rattle.plan_maker.specs.Boosts.{is_boosted}
use Rattle.plan_maker.specs.Jobs.{node_at}
use Rattle.plan_maker.proofs.Marking.{AreMarked}
use Rattle.plan_maker.proofs.boost.boosted.Given as goal

abbrev pub invariant-loop-at : goal.invariant-loop-at
invariant-loop-at l = AreMarked (λ n. is_boosted l.boost (node_at l.index n).desc.name) l.nodes l.at l.marks
