use Rattle.std.proofs.Common.{◌≡◌, take}
use Rattle.std.specs.Prelude.{map}
use Rattle.bulk_base.specs.Order.{set_of}
use Rattle.dist_files.proofs.left_names.files_of.Given as goal

abbrev pub invariant-loop-dist : goal.invariant-loop-dist
invariant-loop-dist l = l.files ≡ set_of (map (λ d. d.file) (take l.dist-index l.dists))
