use Rattle.std.proofs.Common.{◌<◌, ◌+◌, ◌-◌, length, slice_index, arith}
use Rattle.std.proofs.lemmas.Bool.{eq-eqb, ne_eqb}
use Rattle.std.proofs.lemmas.List.Elements.{All-get_or}
use Rattle.loop_report.specs.Walks.{round}
use Rattle.loop_report.proofs.Choosing.{round_done, round_more}
use Rattle.loop_report.proofs.walking.once_round.Goals as goal

pub returns-then-at-from : goal.returns-then-at-from
returns-then-at-from c =
    round_done (slice_index c.args.steps.now) (length c.args.steps.now - c.loop.counter) (length c.args.steps.now - (c.loop.counter + 1)) c.args.from c.loop.at
    c.loop.nodes.items (round (slice_index c.args.steps.now) (length c.args.steps.now) c.args.from) (omega arith) (eq-eqb c.loop.at c.args.from c.if-at-from.true) c.loop.invariant.rest

pub loop-preserved : goal.loop-preserved
loop-preserved c = record {
  below = All-get_or (λ n. n < length c.args.steps.now) c.args.steps.now c.loop.at 0 c.loop.invariant.below c.requires.steps;
  rest = round_more (slice_index c.args.steps.now) (length c.args.steps.now - c.loop.counter) (length c.args.steps.now - (c.loop.counter + 1)) c.args.from c.loop.at
      c.loop.nodes.items c.push-in-loop.new.self.items (round (slice_index c.args.steps.now) (length c.args.steps.now) c.args.from) (omega arith) (ne_eqb c.loop.at c.args.from c.if-at-from.false)
      c.in_ok-push-2.ensures.items c.loop.invariant.rest;
}
