use Rattle.std.proofs.Common.{◌≡◌, not, take}
use Rattle.std.specs.Prelude.{map}
use Rattle.bulk_base.specs.Least.{least_passing}
use Rattle.store_desk.specs.Told.{is_done}
use Rattle.store_desk.proofs.Least.{target}
use Rattle.store_desk.proofs.attempt.least_open_of.Given as goal

abbrev pub invariant-loop-edge : goal.invariant-loop-edge
invariant-loop-edge l = l.least ≡ least_passing (λ d. not (is_done l.kept l.saved d)) (map target (take l.edge-index l.edges))
