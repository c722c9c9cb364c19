use Rattle.std.proofs.Common.{◌≡◌, ◌∙◌, IfOk, true, false, subst, arith}
use Rattle.origin_flavor.proofs.Noticed.{noticed_more, noticed_all}
use Rattle.origin_flavor.proofs.notices.notices.Goals as goal
use Rattle.origin_flavor.proofs.notices.notices.Goals.{then-answer+in_ok-add, else-answer}

pub loop-answer-preserved : goal.loop-answer-preserved
loop-answer-preserved c = elim c.if-answer.branch [
  | then-answer+in_ok-add w ↦
      noticed_more c.args.answers.now c.loop-answer.answer-index c.answer-item.result c.loop-answer.list c.if-answer.list true (omega arith) c.answer-item.is w.if-answer.true (w.list-is ∙ w.in_ok-add.ensures) c.loop-answer.invariant
  | else-answer w ↦
      noticed_more c.args.answers.now c.loop-answer.answer-index c.answer-item.result c.loop-answer.list c.if-answer.list false (omega arith) c.answer-item.is w.if-answer.false w.list-is c.loop-answer.invariant
]

pub returns : goal.returns
returns c =
    subst (λ all. IfOk c.into_notices.result (λ found. found ≡ all))
    (noticed_all c.args.answers.now c.loop-answer.answer-index c.loop-answer.list (omega arith) c.loop-answer.invariant) c.into_notices.ensures
