use Rattle.std.proofs.Common.{arith, ap, sym, ◌∙◌}
use Rattle.origin_flavor.specs.Answers.{answer_of}
use Rattle.origin_flavor.proofs.Answered.{answered_begin, answered_more, answered_all}
use Rattle.origin_flavor.proofs.answer.answer_words.Goals as goal

pub loop-word-init : goal.loop-word-init
loop-word-init c = answered_begin c.args.index.now c.args.words.now _ c.new-found.ensures

pub loop-word-preserved : goal.loop-word-preserved
loop-word-preserved c =
    answered_more c.args.index.now c.args.words.now c.loop-word.word-index c.word-item.result c.loop-word.found c.push.new.self c.in_ok-answer_word.field-0 (omega arith) c.word-item.is
    (ap (answer_of c.args.index.now) (sym c.in_ok-copy.ensures) ∙ c.in_ok-answer_word.ensures.ok) c.in_ok-push.ensures.ok c.loop-word.invariant

pub returns-clause-ok : goal.returns-clause-ok
returns-clause-ok c = answered_all c.args.index.now c.args.words.now c.loop-word.word-index c.loop-word.found (omega arith) c.loop-word.invariant
