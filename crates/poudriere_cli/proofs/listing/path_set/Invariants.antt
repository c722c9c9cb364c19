use Rattle.std.proofs.Common.{◌≡◌, take}
use Rattle.bulk_base.specs.Order.{set_of}
use Rattle.poudriere_cli.proofs.listing.path_set.Given as goal

abbrev pub invariant-loop-path : goal.invariant-loop-path
invariant-loop-path l = l.set ≡ set_of (take l.path-index l.paths)
