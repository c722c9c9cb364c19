use Rattle.std.proofs.Common.{sym, ◌∙◌, arith, rules}
use Rattle.conf_file.proofs.Starred.{begins_long, begins_more}
use Rattle.conf_file.proofs.pattern.begins.Goals as goal

pub returns-then-piece-name : goal.returns-then-piece-name
returns-then-piece-name c = sym (begins_long c.args.piece.now c.args.name.now (omega arith))

pub loop-at-preserved : goal.loop-at-preserved
loop-at-preserved c = begins_more c.args.piece.now c.args.name.now c.loop-at.at (omega arith) (omega arith) (search rules) ∙ c.loop-at.invariant
