use Rattle.std.proofs.Common.{◌≡◌, ◌<◌, ◌-◌, length}
use Rattle.bulk_model.specs.Cause.{cause, cause_within}
use Rattle.bulk_model.proofs.skip.cause.Given as goal

abbrev pub invariant-loop : goal.invariant-loop
invariant-loop l = record {
  node : l.node < length l.plan.jobs;
  rest : cause_within l.plan l.results.statuses (length l.plan.jobs - l.counter) l.node ≡ cause l.plan l.results.statuses l.n;
}
