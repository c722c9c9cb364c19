use Rattle.std.proofs.Common.{◌≡◌, take}
use Rattle.std.specs.Prelude.{Option, filter}
use Rattle.bulk_model.specs.Views.{PackageView}
use Rattle.bulk_model.specs.declared.reason.Reason.{Reason}
use Rattle.stale_check.specs.Lost.{AreLost}
use Rattle.stale_check.specs.Stale.{is_left}
use Rattle.run_store.proofs.leaving.leave.Given as goal

abbrev pub invariant-loop-at : goal.invariant-loop-at
invariant-loop-at l =
    (own : PackageView → Option Reason) → AreLost own l.members l.lost
    → l.stay ≡ filter (is_left own l.members) (take l.at l.members)
