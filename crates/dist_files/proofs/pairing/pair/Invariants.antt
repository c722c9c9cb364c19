use Rattle.std.proofs.Common.{◌≡◌, ◌++◌, drop}
use Rattle.std.specs.Prelude.{find}
use Rattle.std.specs.List.{filter_map}
use Rattle.dist_files.specs.Distinfo.{is_unpaired}
use Rattle.dist_files.specs.Stated.{entry_at}
use Rattle.dist_files.proofs.pairing.pair.Given as goal

abbrev pub invariant-loop-file : goal.invariant-loop-file
invariant-loop-file l =
    (find (is_unpaired (entry_at l.stated)) (drop l.file-index l.files) ≡ find (is_unpaired (entry_at l.stated)) l.files)
    × (l.dists ++ filter_map (entry_at l.stated) (drop l.file-index l.files) ≡ filter_map (entry_at l.stated) l.files)
