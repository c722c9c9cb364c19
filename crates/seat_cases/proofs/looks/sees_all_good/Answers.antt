use Rattle.std.proofs.Common.{rules, ◌≡◌, true, ◌∙◌, arith}
use Rattle.claim_table.proofs.Looking.{known-more, all-known}
use Rattle.seat_cases.proofs.looks.sees_all_good.Goals as goal

pub loop-edge-preserved : goal.loop-edge-preserved
loop-edge-preserved c =
    let seen : c.sees_good.result ≡ true = search rules in
    record {
      seat = c.sees_good.ensures.seat;
      shares = c.sees_good.ensures.shares ∙ c.loop-edge.invariant.shares;
      holds = c.sees_good.ensures.holds ∙ c.loop-edge.invariant.holds;
      known = known-more c.args.kept.now c.loop-edge.seat.view c.sees_good.new.seat.view c.args.edges.now c.loop-edge.edge-index _ (omega arith) c.sees_good.ensures.more c.loop-edge.invariant.known (c.sees_good.ensures.good seen);
    }

pub returns-clause-good : goal.returns-clause-good
returns-clause-good c e = all-known c.args.kept.now c.loop-edge.seat.view c.args.edges.now c.loop-edge.edge-index (omega arith) c.loop-edge.invariant.known
