use Rattle.std.proofs.Common.{◌≡◌, take}
use Rattle.std.specs.Prelude.{Option}
use Rattle.bulk_model.specs.Views.{PackageView}
use Rattle.bulk_model.specs.declared.reason.Reason.{Reason}
use Rattle.stale_check.specs.Recording.{Goes}
use Rattle.stale_check.specs.Stale.{with_packages}
use Rattle.stale_check.proofs.files.add_packages.Given as goal

abbrev pub invariant-loop-at : goal.invariant-loop-at
invariant-loop-at l =
    (goes : PackageView → Option Reason) → Goes l.members l.own l.lost goes
    → l.reasons ≡ with_packages goes l.initial.reasons (take l.at l.members)
