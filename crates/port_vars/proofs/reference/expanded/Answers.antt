use Rattle.std.proofs.Common.{◌∙◌, ◌+◌, Ok, ap, sym, arith, drop}
use Rattle.std.specs.FinMap as map
use Rattle.std.proofs.lemmas.Result.{err_from_is_err_and}
use Rattle.port_vars.proofs.ExpandedSoFar.{piece_taken, fault_told, faulty_piece, faulty_end, whole_text}
use Rattle.port_vars.proofs.reference.expanded.Goals as goal

pub returns-in_err-plain-clause-text : goal.returns-in_err-plain-clause-text
returns-in_err-plain-clause-text c =
    let p = err_from_is_err_and c.from_residual-in_err-plain.result c.from_residual-in_err-plain.ensures.1 in
    rw (p.1, p.2) (fault_told _ c.in_err-plain.field-0.0 _ c.in_err-plain.ensures.fault
    (faulty_piece c.args.most (map.get c.args.vars.now) c.args.value.now c.loop-piece.out.items c.loop-piece.plain c.as_slice-piece-items.result.now c.loop-piece.piece-index c.piece-item.result
    (c.as_slice-piece-items.ensures ∙ c.in_ok-pieces.ensures) (omega arith) c.piece-item.is c.loop-piece.invariant.text))

pub loop-piece-preserved : goal.loop-piece-preserved
loop-piece-preserved c = record {
  size = c.in_ok-plain.ensures.size;
  form = c.in_ok-plain.ensures.form c.loop-piece.invariant.form;
  text = piece_taken c.args.most (map.get c.args.vars.now) c.loop-piece.out.items _ c.loop-piece.plain _ c.as_slice-piece-items.result.now c.loop-piece.piece-index c.piece-item.result
      (omega arith) c.piece-item.is (c.in_ok-plain.ensures.text (drop (c.loop-piece.piece-index + 1) c.as_slice-piece-items.result.now)) c.loop-piece.invariant.text;
}

pub returns-then-plain-clause-text : goal.returns-then-plain-clause-text
returns-then-plain-clause-text c =
    faulty_end c.args.most (map.get c.args.vars.now) c.args.value.now c.loop-piece.out.items c.loop-piece.plain c.as_slice-piece-items.result.now c.loop-piece.piece-index
    (c.as_slice-piece-items.ensures ∙ c.in_ok-pieces.ensures) (omega arith) c.if-plain.true c.loop-piece.invariant.text

pub returns-clause-text : goal.returns-clause-text
returns-clause-text c =
    whole_text c.args.most (map.get c.args.vars.now) c.args.value.now c.loop-piece.out.items c.loop-piece.plain c.as_slice-piece-items.result.now c.loop-piece.piece-index
    (c.as_slice-piece-items.ensures ∙ c.in_ok-pieces.ensures) (omega arith) c.if-plain.false c.loop-piece.invariant.size c.loop-piece.invariant.text
    ∙ ap Ok (sym c.from_vec.ensures)
