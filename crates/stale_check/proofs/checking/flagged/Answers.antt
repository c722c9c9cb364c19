use Rattle.std.proofs.Common.{◌++◌, ◌∷◌, [], ◌∙◌, ap, sym, cond}
use Rattle.std.proofs.lemmas.List.{append-nil}
use Rattle.bulk_model.specs.Flags.{flag}
use Rattle.dep_graph.proofs.Members.{filter_more}
use Rattle.stale_check.proofs.checking.flagged.Goals as goal
use Rattle.stale_check.proofs.checking.flagged.Goals.{then-get+in_ok-push, else-get}

pub loop-n-preserved : goal.loop-n-preserved
loop-n-preserved c =
    filter_more (flag c.args.flags.now) c.loop-n.n c.get.result c.loop-n.numbers c.if-get.numbers c.loop-n.invariant (sym c.get.ensures)
    (elim c.if-get.branch [
      | then-get+in_ok-push w ↦ w.numbers-is ∙ w.in_ok-push.ensures.ok ∙ ap (λ b. c.loop-n.numbers ++ cond b (c.loop-n.n ∷ []) []) (sym w.if-get.true)
      | else-get w ↦ w.numbers-is ∙ sym (append-nil c.loop-n.numbers) ∙ ap (λ b. c.loop-n.numbers ++ cond b (c.loop-n.n ∷ []) []) (sym w.if-get.false)
    ])
