use Rattle.port_vars.proofs.PiecesSoFar.{PiecesSoFar}
use Rattle.port_vars.proofs.piece.pieces.Given as goal

abbrev pub invariant-loop-at : goal.invariant-loop-at
invariant-loop-at l = PiecesSoFar l.byte l.bytes l.found l.start l.at
