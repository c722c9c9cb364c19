-- The parts of a build in a room: how its phases ended, and what is taken of the staged files.
use Rattle.std.specs.Prelude.{ℕ, List, [], take, Option, Some, None}
use Rattle.std.specs.Option.{option_map}
use Rattle.bulk_base.specs.declared.file.FileItem.{FileItem}
use Rattle.outside.specs.Contents.{Contents}
use Rattle.bulk_model.specs.Files.{file_at}
use Rattle.bulk_model.specs.Views.{JobView}
use Rattle.bulk_model.specs.Bake.{packed, staged}
use Rattle.bulk_model.specs.declared.outcome.Outcome.{Outcome}
use Rattle.bulk_model.specs.declared.outcome.Outcome.TheVariants.{Failed}
use Rattle.one_port.specs.declared.phases.Stop.{Stop}

-- what comes of staged files where the base root has no file and no package is installed
abbrev pub packed_alone : JobView → List FileItem → Outcome
packed_alone job files = packed [] job [] files

-- what comes of a build whose phases ended so, with the folder that they left
abbrev pub outcome_after : JobView → Option Stop → Contents → Outcome
outcome_after job None folder = packed_alone job (staged folder)
outcome_after job (Some stop) folder = Failed stop.phase stop.code

-- a file with so many of its first bytes
abbrev pub cut_file : ℕ → FileItem → FileItem
cut_file most file = record { path = file.path; bytes = take most file.bytes }

-- so many first bytes of a file below a folder, under the path that it has there
abbrev pub taken_at : ℕ → List ℕ → Contents → List ℕ → Option FileItem
taken_at most folder content path = option_map (cut_file most) (file_at folder content path)
