use Rattle.std.proofs.Common.{◌<◌, ◌∙◌, length-set, get_or, refl, arith}
use Rattle.std.proofs.lemmas.List.Elements.{All-get_or}
use Rattle.plan_maker.proofs.Placing.{numbered_more, numbers_are}
use Rattle.plan_maker.proofs.numbering.number_nodes.Goals as goal

pub loop-at-preserved : goal.loop-at-preserved
loop-at-preserved c =
    let below : get_or c.args.nodes.now c.loop-at.at 0 < c.args.count = All-get_or (λ n. n < c.args.count) c.args.nodes.now c.loop-at.at 0 c.loop-at-test.true c.requires.within in
    record {
      size = length-set c.loop-at.places.items _ _ ∙ c.loop-at.invariant.size;
      numbered = numbered_more c.loop-at.places.items _ c.args.nodes.now c.loop-at.at c.requires.order c.loop-at-test.true (omega arith) refl c.loop-at.invariant.numbered;
    }

pub returns-clause-places : goal.returns-clause-places
returns-clause-places c = λ n h. numbers_are c.loop-at.places.items c.args.nodes.now c.loop-at.at c.requires.order c.loop-at-test.false c.loop-at.invariant.numbered n h
