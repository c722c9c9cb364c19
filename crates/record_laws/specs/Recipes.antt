-- What holds of any two recipes (docs/FORMATS.md).
use Rattle.std.specs.Prelude.{◌≡◌, ◌<◌, ◌^◌, ℕ, List, length, IsTrue}
use Rattle.std.specs.List.{AllByRecursion}
use Rattle.bulk_base.specs.declared.file.FileItem.{FileItem}
use Rattle.bulk_base.specs.Text.{has_text_bytes}
use Rattle.bulk_model.specs.Facts.{IsJob}
use Rattle.bulk_model.specs.Recipe.{recipe_text}
use Rattle.bulk_model.specs.Views.{JobView}

-- files whose paths are in one line each, and whose count and sizes are below 2 ^ 64
pub record AreFiles (files : List FileItem) : Type 0 where
  pub count : length files < 2 ^ 64
  pub paths : AllByRecursion (λ f. IsTrue (has_text_bytes f.path)) files
  pub sizes : AllByRecursion (λ f. length f.bytes < 2 ^ 64) files

-- a command of fewer than 2 ^ 64 words, each in one line
pub record IsCommand (words : List (List ℕ)) : Type 0 where
  pub count : length words < 2 ^ 64
  pub texts : AllByRecursion (λ word. IsTrue (has_text_bytes word)) words

-- fewer than 2 ^ 64 commands
pub record AreCommands (commands : List (List (List ℕ))) : Type 0 where
  pub count : length commands < 2 ^ 64
  pub each : AllByRecursion IsCommand commands

-- base files and a job that have a recipe; those in memory have one
pub record HasRecipe (base : List FileItem) (job : JobView) : Type 0 where
  pub facts : IsJob job
  pub options : length job.options < 2 ^ 64
  pub depends : length job.depends < 2 ^ 64
  pub extract : AreCommands job.steps.extract
  pub patch : AreCommands job.steps.patch
  pub configure : AreCommands job.steps.configure
  pub build : AreCommands job.steps.build
  pub stage : AreCommands job.steps.stage
  pub files : AreFiles job.files
  pub base_files : AreFiles base

-- different pairs of base files and a job have recipes of different texts
abbrev pub EachHasItsText : Type 0
EachHasItsText =
    (base other : List FileItem) (job another : JobView) → HasRecipe base job
    → HasRecipe other another
    → recipe_text base job ≡ recipe_text other another → (base ≡ other) × (job ≡ another)
