-- How a build's phases end, and what comes of what they staged.
use Rattle.std.specs.Prelude.{ℕ, Bool, true, false, ◌==◌, List, Option, Some, None}
use Rattle.bulk_base.specs.declared.file.FileItem.{FileItem}
use Rattle.outside.specs.Contents.{Contents}
use Rattle.bulk_model.specs.Bake.{package_of, staged}
use Rattle.bulk_model.specs.Views.{JobView, PackageView}
use Rattle.bulk_model.specs.declared.outcome.Outcome.{Outcome}
use Rattle.bulk_model.specs.declared.outcome.Outcome.TheVariants.{Built, Failed}
use Rattle.bulk_model.specs.declared.outcome.Phase.{Phase}
use Rattle.bulk_model.specs.declared.outcome.Phase.TheVariants.{Depends, Package}
use Rattle.phase_runner.specs.declared.phases.Stop.{Stop}

-- the phases that run commands
abbrev pub is_of_commands : Phase → Bool
is_of_commands Depends = false
is_of_commands Package = false
is_of_commands _ = true

-- the failure of a build whose installed files collide
abbrev pub is_conflict : Outcome → Bool
is_conflict (Failed Depends code) = code == 1
is_conflict _ = false

-- what comes of a build whose phases ended so, with the folder that they left
abbrev pub outcome_after : (List FileItem → Outcome) → Option Stop → Contents → Outcome
outcome_after pack None folder = pack (staged folder)
outcome_after pack (Some stop) folder = Failed stop.phase stop.code

-- what comes of staged files, where none stands for too heavy ones
abbrev pub packed_light : List FileItem → JobView → List PackageView → Option (List FileItem)
    → Outcome
packed_light base job packages None = Failed Package 2
packed_light base job packages (Some files) = Built (package_of base job packages files)
