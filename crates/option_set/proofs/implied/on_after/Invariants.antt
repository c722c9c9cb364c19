use Rattle.option_set.specs.Implied as implied
use Rattle.option_set.proofs.Spreading.{Spread}
use Rattle.option_set.proofs.implied.on_after.Given as goal

abbrev pub invariant-loop-round : goal.invariant-loop-round
invariant-loop-round l = Spread (implied.implied_by l.vars) (implied.on_after (implied.implied_by l.vars) l.begun l._round) l.new l.on
