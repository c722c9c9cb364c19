use Rattle.std.proofs.Common.{take}
use Rattle.option_set.proofs.Turning.{TurnedOn}
use Rattle.option_set.proofs.implied.turn_on.Given as goal

abbrev pub invariant-loop-name : goal.invariant-loop-name
invariant-loop-name l = TurnedOn (take l.name-index l.names) l.fn.on l.on l.new
