use Rattle.std.proofs.Common.{◌≡◌, ℕ, ◌<◌, get_or, take, Contains}
use Rattle.bulk_model.specs.Facts.{paths_of}
use Rattle.pkg_record.proofs.item_reader.has_free_folders.Given as goal

abbrev pub invariant-loop-at : goal.invariant-loop-at
invariant-loop-at l = (k : ℕ) → k < l.at → get_or l.path k 0 ≡ 47 → Contains (paths_of l.files) (take k l.path) → ⊥
