use Rattle.std.proofs.Common.{◌≡◌, ◌+◌, ◌∷◌, ◌∙◌, ℕ, List, [], length, arith, subst}
use Rattle.std.specs.Str.Lines.{lines}
use Rattle.std.proofs.lemmas.List.{get_or_default}
use Rattle.port_vars.specs.Joined.{joined, whole}
use Rattle.bulk_base.proofs.Sizes.{spans_are}
use Rattle.port_vars.proofs.JoinedSoFar.{at_line}
use Rattle.port_vars.proofs.joined.joined.Goals as goal

pub loop-at-preserved : goal.loop-at-preserved
loop-at-preserved c =
    let size : length c.in_ok-spans.spans ≡ length (lines c.args.bytes.now) = spans_are c.args.bytes.now c.in_ok-spans.spans c.in_ok-spans.ensures.text in
    let text : List ℕ = c.numbered_line-line.result.text.now in
    at_line c.loop-at.found c.take_line.new.found c.loop-at.begun c.in_ok-begun.begun c.loop-at.at (lines c.args.bytes.now) text (joined c.args.bytes.now)
    (omega arith) (c.numbered_line-line.ensures.text ∙ get_or_default (lines c.args.bytes.now) c.loop-at.at [] text (omega arith))
    (subst (λ n. (rest : List (List ℕ)) → whole c.loop-at.found c.loop-at.begun n (text ∷ rest) ≡ whole c.take_line.new.found c.in_ok-begun.begun (n + 1) rest) c.numbered_line-line.ensures.number c.in_ok-begun.ensures)
    c.loop-at.invariant
