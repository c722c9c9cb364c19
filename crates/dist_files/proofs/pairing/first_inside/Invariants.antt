use Rattle.dist_files.proofs.Inside.{SearchedSoFar}
use Rattle.dist_files.proofs.pairing.first_inside.Given as goal

abbrev pub invariant-loop-file : goal.invariant-loop-file
invariant-loop-file l = SearchedSoFar l.files l.file-index l.before
