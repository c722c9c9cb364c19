use Rattle.std.proofs.Common.{◌≡◌, ◌<◌, not, length, take, IfSome}
use Rattle.std.specs.Prelude.{map}
use Rattle.bulk_base.specs.Least.{least_passing}
use Rattle.bulk_model.specs.Fit.{status_in}
use Rattle.bulk_model.specs.Results.{is_good}
use Rattle.bulk_model.proofs.Setbacks.{target}
use Rattle.bulk_model.proofs.skip.least_setback.Given as goal

abbrev pub invariant-loop-edge : goal.invariant-loop-edge
invariant-loop-edge l = record {
  least : l.least ≡ least_passing (λ d. not (is_good (status_in l.statuses d))) (map target (take l.edge-index l.edges));
  node : IfSome l.least (λ d. d < length l.statuses);
}
