use Rattle.std.proofs.Common.{◌≡◌, drop}
use Rattle.std.specs.List.{find}
use Rattle.outside.specs.Given.{is_folder_of, first_folder}
use Rattle.outside.proofs.folder.least_folder.Given as goal

abbrev pub invariant-loop-path : goal.invariant-loop-path
invariant-loop-path l = find (is_folder_of l.paths) (drop l.path-index l.paths) ≡ first_folder l.paths
