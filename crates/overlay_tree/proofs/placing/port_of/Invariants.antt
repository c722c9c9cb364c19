use Rattle.overlay_tree.proofs.Fronts.{FrontSoFar}
use Rattle.overlay_tree.proofs.placing.port_of.Given as goal

abbrev pub invariant-loop-at : goal.invariant-loop-at
invariant-loop-at l = FrontSoFar l.path l.left l.at
