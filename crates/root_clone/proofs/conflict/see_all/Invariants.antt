use Rattle.std.proofs.Common.{◌≡◌, List, ◌++◌, drop}
use Rattle.std.specs.FinMap.{keys}
use Rattle.bulk_base.specs.declared.file.FileItem.{FileItem}
use Rattle.bulk_model.specs.Bake.{first_conflict}
use Rattle.root_clone.proofs.conflict.see_all.Given as goal

abbrev pub invariant-loop-file : goal.invariant-loop-file
invariant-loop-file l = (rest : List FileItem)
    → first_conflict (keys l.seen) (drop l.file-index l.files ++ rest) ≡ first_conflict (keys l.initial.seen) (l.files ++ rest)
