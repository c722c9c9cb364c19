use Rattle.std.proofs.Common.{◌≡◌, ◌∙◌, true, false, List, ℕ, [], Err, length, ap, sym, arith, rules}
use Rattle.std.specs.Str.Lines.{lines}
use Rattle.std.proofs.lemmas.List.{get_or_default}
use Rattle.bulk_base.specs.Text.{is_text}
use Rattle.bulk_base.proofs.Sizes.{spans_are}
use Rattle.origin_flavor.specs.declared.fault.WantedError.TheVariants.{BadList}
use Rattle.origin_flavor.proofs.Listed.{listed_line, listed_fault, listed_all}
use Rattle.origin_flavor.proofs.list_file.read_list.Goals as goal

pub returns-then-not-is_text-clause-refused : goal.returns-then-not-is_text-clause-refused
returns-then-not-is_text-clause-refused c = λ some.
    let size : length c.in_ok-spans.spans ≡ length (lines c.args.bytes.now) = spans_are c.args.bytes.now c.in_ok-spans.spans c.in_ok-spans.ensures.text in
    let text : List ℕ = c.numbered_line-line.result.text.now in
    let bad : is_text text ≡ false = search rules in
    listed_fault (lines c.args.bytes.now) c.loop-at.at text c.loop-at.found (omega arith)
    (c.numbered_line-line.ensures.text ∙ get_or_default (lines c.args.bytes.now) c.loop-at.at [] text (omega arith)) bad c.loop-at.invariant
    ∙ ap (λ n. Err (BadList n)) (sym c.numbered_line-line.ensures.number)

pub loop-at-preserved : goal.loop-at-preserved
loop-at-preserved c =
    let size : length c.in_ok-spans.spans ≡ length (lines c.args.bytes.now) = spans_are c.args.bytes.now c.in_ok-spans.spans c.in_ok-spans.ensures.text in
    let text : List ℕ = c.numbered_line-line.result.text.now in
    let good : is_text text ≡ true = search rules in
    listed_line (lines c.args.bytes.now) c.loop-at.at text c.loop-at.found c.take_line.new.found (omega arith)
    (c.numbered_line-line.ensures.text ∙ get_or_default (lines c.args.bytes.now) c.loop-at.at [] text (omega arith)) good c.in_ok-take_line.ensures c.loop-at.invariant

pub returns-clause-ok : goal.returns-clause-ok
returns-clause-ok c =
    let size : length c.in_ok-spans.spans ≡ length (lines c.args.bytes.now) = spans_are c.args.bytes.now c.in_ok-spans.spans c.in_ok-spans.ensures.text in
    listed_all (lines c.args.bytes.now) c.loop-at.at c.loop-at.found (omega arith) c.loop-at.invariant
