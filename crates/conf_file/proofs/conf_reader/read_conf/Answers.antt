use Rattle.std.proofs.Common.{◌≡◌, ◌∙◌, List, ℕ, [], length, arith}
use Rattle.std.specs.Str.Lines.{lines}
use Rattle.std.proofs.lemmas.List.{get_or_default}
use Rattle.std.proofs.lemmas.Result.{err_from_is_err_and}
use Rattle.bulk_base.proofs.Sizes.{spans_are}
use Rattle.conf_file.proofs.ReadSoFar.{read_line, read_fault}
use Rattle.conf_file.proofs.conf_reader.read_conf.Goals as goal

pub returns-in_err-take_numbered-clause-bad_line : goal.returns-in_err-take_numbered-clause-bad_line
returns-in_err-take_numbered-clause-bad_line c =
    let p = err_from_is_err_and c.from_residual-in_err-take_numbered.result c.from_residual-in_err-take_numbered.ensures.1 in
    let size : length c.in_ok-spans.spans ≡ length (lines c.args.bytes.now) = spans_are c.args.bytes.now c.in_ok-spans.spans c.in_ok-spans.ensures.text in
    let text : List ℕ = c.numbered_line-line.result.text.now in
    rw (p.1, p.2) (read_fault c.args.bytes.now c.loop-at.at text c.numbered_line-line.result.number c.loop-at.conf c.take_numbered.new.conf c.in_err-take_numbered.field-0.0
    (omega arith) (omega arith) (c.numbered_line-line.ensures.text ∙ get_or_default (lines c.args.bytes.now) c.loop-at.at [] text (omega arith))
    c.numbered_line-line.ensures.number c.loop-at.invariant c.in_err-take_numbered.ensures)

pub loop-at-preserved : goal.loop-at-preserved
loop-at-preserved c =
    let size : length c.in_ok-spans.spans ≡ length (lines c.args.bytes.now) = spans_are c.args.bytes.now c.in_ok-spans.spans c.in_ok-spans.ensures.text in
    let text : List ℕ = c.numbered_line-line.result.text.now in
    read_line (lines c.args.bytes.now) c.loop-at.at text c.loop-at.conf c.take_numbered.new.conf (omega arith)
    (c.numbered_line-line.ensures.text ∙ get_or_default (lines c.args.bytes.now) c.loop-at.at [] text (omega arith)) c.in_ok-take_numbered.ensures c.loop-at.invariant
