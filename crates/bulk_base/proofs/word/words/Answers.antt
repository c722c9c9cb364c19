use Rattle.std.proofs.Common.{◌≡◌, ◌<◌, ◌∙◌, ap, sym, length, get_or, arith}
use Rattle.bulk_base.specs.Words.{is_blank}
use Rattle.bulk_base.proofs.WordsSoFar.{words_begin, words_cut, words_go_on, words_end}
use Rattle.bulk_base.proofs.word.words.Goals as goal
use Rattle.bulk_base.proofs.word.words.Goals.{then-is_blank+in_ok-keep_piece, else-is_blank}

pub loop-at-init : goal.loop-at-init
loop-at-init c = words_begin c.args.text.now _ c.bytes-bytes.ensures.form.0 c.new-found.ensures

pub loop-at-preserved : goal.loop-at-preserved
loop-at-preserved c =
    let here : is_blank (get_or c.args.text.now c.loop-at.at 0) ≡ c.is_blank.result = ap (λ b. is_blank (get_or b c.loop-at.at 0)) (sym c.bytes-bytes.ensures.same) ∙ sym c.is_blank.ensures in
    let within : c.loop-at.at < length c.args.text.now = omega (arith, c.loop-at-test.true, ap length c.bytes-bytes.ensures.same) in
    elim c.if-is_blank.branch [
      | then-is_blank+in_ok-keep_piece w ↦ rw (w.found-is, w.start-is)
          (words_cut c.args.text.now c.loop-at.found _ c.loop-at.start c.loop-at.at c.bytes-bytes.ensures.form.0 within (here ∙ w.if-is_blank.true) w.in_ok-keep_piece.ensures c.loop-at.invariant)
      | else-is_blank w ↦ rw (w.found-is, w.start-is) (words_go_on c.args.text.now c.loop-at.found c.loop-at.start c.loop-at.at (here ∙ w.if-is_blank.false) c.loop-at.invariant)
    ]

pub returns : goal.returns
returns c =
    let size : length c.bytes-bytes.result.now ≡ length c.args.text.now = ap length c.bytes-bytes.ensures.same in
    words_end c.args.text.now c.loop-at.found _ c.loop-at.start c.loop-at.at (length c.bytes-bytes.result.now)
    (omega arith) size c.in_ok-keep_piece-2.ensures c.loop-at.invariant
