use Rattle.std.proofs.Common.{◌≡◌, length}
use Rattle.conf_file.proofs.Starred.{starred}
use Rattle.conf_file.proofs.pattern.matches_behind_star.Given as goal

-- what is left of pattern and name behind a star decides
abbrev pub invariant-loop-pattern : goal.invariant-loop-pattern
invariant-loop-pattern l = starred l.pattern l.name ≡ starred l.fn.pattern l.fn.name

abbrev pub decreases-loop-pattern : goal.decreases-loop-pattern
decreases-loop-pattern l = length l.pattern
