use Rattle.std.proofs.Common.{◌≡◌, take}
use Rattle.std.specs.Prelude.{filter, not}
use Rattle.dist_files.specs.Checked.{is_in_set}
use Rattle.dist_files.proofs.left_names.unnamed.Given as goal

abbrev pub invariant-loop-name : goal.invariant-loop-name
invariant-loop-name l = l.left ≡ filter (λ name. not (is_in_set l.files name)) (take l.name-index l.names)
