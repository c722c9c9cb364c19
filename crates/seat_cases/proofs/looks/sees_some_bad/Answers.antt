use Rattle.std.proofs.Common.{arith}
use Rattle.claim_table.proofs.Looking.{bad-known}
use Rattle.seat_cases.proofs.looks.sees_some_bad.Goals as goal

pub returns-then-sees_bad-clause-bad : goal.returns-then-sees_bad-clause-bad
returns-then-sees_bad-clause-bad c e = bad-known c.sees_bad.new.seat.view.bad c.args.edges.now c.loop-edge.edge-index _ (omega arith) (c.sees_bad.ensures.bad c.if-sees_bad.true)
