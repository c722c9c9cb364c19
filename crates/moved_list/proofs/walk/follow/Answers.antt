use Rattle.std.proofs.Common.{◌∙◌, ap, sym, length, arith}
use Rattle.moved_list.proofs.Walked.{walk_begin, walk_next, walk_end, walk_short, the_answer}
use Rattle.moved_list.proofs.walk.follow.Goals as goal

pub loop-init : goal.loop-init
loop-init c = walk_begin c.args.names.now c.args.moved.now c.args.name.now c.in_ok-current.current c.new-chain.result c.in_ok-current.ensures c.new-chain.ensures

pub returns-in-End-clause-leads : goal.returns-in-End-clause-leads
returns-in-End-clause-leads c =
    walk_end c.args.names.now c.args.moved.now c.args.name.now c.loop.counter c.loop.chain c.loop.current c.in-End.answer (sym c.in_ok-answer.ensures ∙ c.in-End.is) c.loop.invariant

pub returns-in-End-clause-answer : goal.returns-in-End-clause-answer
returns-in-End-clause-answer c = the_answer c.args.names.now c.args.moved.now c.args.name.now c.in-End.answer
    (walk_end c.args.names.now c.args.moved.now c.args.name.now c.loop.counter c.loop.chain c.loop.current c.in-End.answer (sym c.in_ok-answer.ensures ∙ c.in-End.is) c.loop.invariant)

pub loop-preserved : goal.loop-preserved
loop-preserved c =
    walk_next c.args.names.now c.args.moved.now c.args.name.now c.loop.counter c.loop.chain c.in_ok-chain-in-Next.chain c.loop.current c.in-Next.next (sym c.in_ok-answer.ensures ∙ c.in-Next.is)
    c.in_ok-chain-in-Next.ensures c.loop.invariant

pub unreachable-requires : goal.unreachable-requires
unreachable-requires c =
    let short = walk_short c.args.names.now c.args.moved.now c.args.name.now c.loop.counter c.loop.chain c.loop.current c.loop.invariant in
    omega (arith, short, c.loop-test.false, ap length c.lines.ensures)
