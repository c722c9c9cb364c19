use Rattle.std.proofs.Common.{◌≡◌, [], drop}
use Rattle.std.specs.FinMap.{keys}
use Rattle.bulk_model.specs.Bake.{first_conflict, installed}
use Rattle.root_clone.proofs.conflict.find_conflict.Given as goal

abbrev pub invariant-loop-package : goal.invariant-loop-package
invariant-loop-package l =
    first_conflict (keys l.seen) (installed (drop l.package-index l.packages)) ≡ first_conflict [] (installed l.packages)
