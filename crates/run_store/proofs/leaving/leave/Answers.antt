use Rattle.std.proofs.Common.{arith, ap, ◌∙◌}
use Rattle.std.specs.Prelude.{filter}
use Rattle.std.proofs.lemmas.List.{take_all}
use Rattle.stale_check.specs.Stale.{is_left}
use Rattle.run_store.proofs.Remaining.{left_is}
use Rattle.run_store.proofs.leaving.leave.Goals as goal

pub returns : goal.returns
returns c own are =
    c.loop-at.invariant own are
    ∙ ap (filter (is_left own c.args.members.now)) (take_all c.loop-at.at c.args.members.now (omega arith))
    ∙ left_is own c.args.members.now c.args.lost.now are
