use Rattle.std.proofs.Common.{◌≡◌, ◌∙◌, true, false, List, ℕ, [], Err, length, ap, sym, arith, rules}
use Rattle.std.specs.Prelude.{◌||◌, is_some}
use Rattle.std.specs.Str.Lines.{lines}
use Rattle.std.proofs.lemmas.List.{get_or_default}
use Rattle.bulk_base.proofs.Sizes.{spans_are}
use Rattle.dist_files.specs.declared.fault.DistError.TheVariants.{BadLine}
use Rattle.dist_files.specs.Lines.{said, is_passed}
use Rattle.dist_files.proofs.Read.{read_line, read_fault, read_all}
use Rattle.dist_files.proofs.distinfo.read_lines.Goals as goal

pub returns-then-not-branch-clause-bad_line : goal.returns-then-not-branch-clause-bad_line
returns-then-not-branch-clause-bad_line c = λ some.
    let size : length c.in_ok-spans.spans ≡ length (lines c.args.bytes.now) = spans_are c.args.bytes.now c.in_ok-spans.spans c.in_ok-spans.ensures.text in
    let text : List ℕ = c.numbered_line-line.result.text.now in
    let bad : (is_some (said text) || is_passed text) ≡ false = sym c.in_ok-take_line.ensures.form ∙ search rules in
    read_fault c.args.bytes.now c.loop-at.at text c.loop-at.stated (omega arith)
    (c.numbered_line-line.ensures.text ∙ get_or_default (lines c.args.bytes.now) c.loop-at.at [] text (omega arith)) bad c.loop-at.invariant
    ∙ ap (λ n. Err (BadLine n)) (sym c.numbered_line-line.ensures.number)

pub loop-at-preserved : goal.loop-at-preserved
loop-at-preserved c =
    let size : length c.in_ok-spans.spans ≡ length (lines c.args.bytes.now) = spans_are c.args.bytes.now c.in_ok-spans.spans c.in_ok-spans.ensures.text in
    let text : List ℕ = c.numbered_line-line.result.text.now in
    let good : (is_some (said text) || is_passed text) ≡ true = sym c.in_ok-take_line.ensures.form ∙ search rules in
    read_line (lines c.args.bytes.now) c.loop-at.at text c.loop-at.stated c.take_line.new.stated (omega arith)
    (c.numbered_line-line.ensures.text ∙ get_or_default (lines c.args.bytes.now) c.loop-at.at [] text (omega arith)) good c.in_ok-take_line.ensures.noted c.loop-at.invariant

pub returns-clause-good : goal.returns-clause-good
returns-clause-good c =
    let size : length c.in_ok-spans.spans ≡ length (lines c.args.bytes.now) = spans_are c.args.bytes.now c.in_ok-spans.spans c.in_ok-spans.ensures.text in
    (read_all (lines c.args.bytes.now) c.loop-at.at c.loop-at.stated (omega arith) c.loop-at.invariant).good

pub returns-clause-ok : goal.returns-clause-ok
returns-clause-ok c =
    let size : length c.in_ok-spans.spans ≡ length (lines c.args.bytes.now) = spans_are c.args.bytes.now c.in_ok-spans.spans c.in_ok-spans.ensures.text in
    (read_all (lines c.args.bytes.now) c.loop-at.at c.loop-at.stated (omega arith) c.loop-at.invariant).ok
