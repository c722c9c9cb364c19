use Rattle.std.proofs.Common.{◌≡◌, ◌∙◌, refl, rules, length, arith}
use Rattle.bulk_base.proofs.LinesSoFar.{lines_cut, lines_go_on, lines_end, lines_done}
use Rattle.bulk_base.proofs.line.lines.Goals as goal
use Rattle.bulk_base.proofs.line.lines.Goals.{then-bytes-at-eq10+in_ok-push, else-bytes-at-eq10, then-start-bytes+in_ok-push-2, else-start-bytes}

pub loop-at-preserved : goal.loop-at-preserved
loop-at-preserved c =
    elim c.if-bytes-at-eq10.branch [
      | then-bytes-at-eq10+in_ok-push w ↦ rw (w.found-is, w.start-is)
          (lines_cut c.args.bytes.now c.loop-at.found _ (record { from = c.loop-at.start; to = w.end_of_line.result }) c.loop-at.start c.loop-at.at
          (omega arith) (search rules) w.in_ok-push.ensures.ok refl (record { order = omega arith; within = omega arith }) w.end_of_line.ensures.text c.loop-at.invariant)
      | else-bytes-at-eq10 w ↦ rw (w.found-is, w.start-is) (lines_go_on c.args.bytes.now c.loop-at.found c.loop-at.start c.loop-at.at (search rules) c.loop-at.invariant)
    ]

pub returns : goal.returns
returns c =
    let at_end : c.loop-at.at ≡ length c.args.bytes.now = omega arith in
    elim c.if-start-bytes.branch [
      | then-start-bytes+in_ok-push-2 w ↦
          let done = lines_end c.args.bytes.now c.loop-at.found c.if-start-bytes.found (record { from = c.loop-at.start; to = length c.args.bytes.now }) c.loop-at.start c.loop-at.at
          at_end w.if-start-bytes.true refl refl (w.found-is ∙ w.in_ok-push-2.ensures.ok) c.loop-at.invariant in
          record { places = done.places; text = done.text; within = done.within }
      | else-start-bytes w ↦
          let done = lines_done c.args.bytes.now c.loop-at.found c.loop-at.start c.loop-at.at at_end w.if-start-bytes.false c.loop-at.invariant in
          rw w.found-is (record { places = done.places; text = done.text; within = done.within })
    ]
