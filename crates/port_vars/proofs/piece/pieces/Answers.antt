use Rattle.std.proofs.Common.{◌∙◌, ◌==◌, ap, arith, [], ◌∷◌, ◌++◌}
use Rattle.std.specs.List.{slice_split}
use Rattle.bulk_base.proofs.TextTests.{is_text-from_IsText}
use Rattle.port_vars.proofs.TextParts.{IsText-from, rest_is}
use Rattle.port_vars.proofs.PiecesSoFar.{pieces_begin, pieces_go_on, pieces_cut, pieces_end, piece_is_text, is_cut-yes, is_cut-no}
use Rattle.port_vars.proofs.piece.pieces.Goals as goal
use Rattle.port_vars.proofs.piece.pieces.Goals.{then-bytes-at+in_ok-of+in_ok-push, else-bytes-at}

pub loop-at-init : goal.loop-at-init
loop-at-init c = pieces_begin c.args.byte c.bytes-bytes.result.now _ (rw (← c.bytes-bytes.ensures.same) at c.bytes-bytes.ensures.form) c.new-found.ensures

pub of-requires : goal.of-requires
of-requires c =
    let form = rw (← c.bytes-bytes.ensures.same) at c.bytes-bytes.ensures.form in
    is_text-from_IsText _ (piece_is_text c.args.byte c.bytes-bytes.result.now c.loop-at.found c.loop-at.start c.loop-at.at (omega arith) form (omega arith) (is_cut-yes _ _ c.if-bytes-at.true) c.loop-at.invariant)

pub loop-at-preserved : goal.loop-at-preserved
loop-at-preserved c =
    let form = rw (← c.bytes-bytes.ensures.same) at c.bytes-bytes.ensures.form in
    elim c.if-bytes-at.branch [
      | then-bytes-at+in_ok-of+in_ok-push w ↦ rw (w.found-is, w.start-is)
          (pieces_cut c.args.byte c.bytes-bytes.result.now c.loop-at.found _ c.loop-at.start c.loop-at.at (omega arith) form (omega arith) (is_cut-yes _ _ w.if-bytes-at.true) (w.in_ok-push.ensures.ok ∙ ap (λ x. c.loop-at.found ++ x ∷ []) w.in_ok-of.ensures) c.loop-at.invariant)
      | else-bytes-at w ↦ rw (w.found-is, w.start-is) (pieces_go_on c.args.byte c.bytes-bytes.result.now c.loop-at.found c.loop-at.start c.loop-at.at (is_cut-no _ _ w.if-bytes-at.false) c.loop-at.invariant)
    ]

pub of-requires-2 : goal.of-requires-2
of-requires-2 c =
    let form = rw (← c.bytes-bytes.ensures.same) at c.bytes-bytes.ensures.form in
    is_text-from_IsText _ (rw (rest_is c.bytes-bytes.result.now c.loop-at.start) (IsText-from c.bytes-bytes.result.now c.loop-at.start form c.loop-at.invariant.within c.loop-at.invariant.boundary))

pub returns : goal.returns
returns c =
    pieces_end c.args.byte c.bytes-bytes.result.now c.loop-at.found _ c.loop-at.start c.loop-at.at (omega arith)
    (c.in_ok-push-2.ensures.ok ∙ ap (λ x. c.loop-at.found ++ x ∷ []) (c.in_ok-of-2.ensures ∙ rest_is c.bytes-bytes.result.now c.loop-at.start)) c.loop-at.invariant
    ∙ ap (slice_split (λ b. b == c.args.byte)) c.bytes-bytes.ensures.same
