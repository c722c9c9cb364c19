use Rattle.std.proofs.Common.{◌≡◌, drop}
use Rattle.port_name.specs.Sets.{is_among}
use Rattle.option_set.specs.Refused.{first_some, prevents}
use Rattle.option_set.proofs.prevented.first_prevented.Given as goal

abbrev pub invariant-loop-a : goal.invariant-loop-a
invariant-loop-a l = first_some (prevents l.vars (is_among l.on)) (drop l.a-index l.a-items) ≡ first_some (prevents l.vars (is_among l.on)) l.a-items
