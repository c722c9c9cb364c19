-- The text of a recipe, all that decides a build but its dependencies' packages (docs/FORMATS.md).
use Rattle.std.specs.Prelude.{ℕ, List, ◌++◌, length, codes}
use Rattle.std.specs.List.{flat_map}
use Rattle.std.specs.Fmt.{decimal}
use Rattle.bulk_base.specs.declared.file.FileItem.{FileItem}
use Rattle.bulk_model.specs.declared.depend.Depend.{Depend}
use Rattle.bulk_model.specs.declared.digest.Digest.{Digest}
use Rattle.bulk_model.specs.declared.steps.Steps.{Steps}
use Rattle.bulk_model.specs.Digests.{digest_of}
use Rattle.bulk_model.specs.Lines.{line, count_line, name_lines, option_lines, depend_words, file_pieces}
use Rattle.bulk_model.specs.Views.{JobView}

abbrev pub depend_line : Depend → List ℕ
depend_line depend = line (depend_words depend.kind depend.node depend.name)

abbrev pub depend_lines : List Depend → List ℕ
depend_lines depends =
    count_line (codes "depends ") (length depends) ++ flat_map depend_line depends

-- how many commands each phase has
abbrev pub steps_line : Steps → List ℕ
steps_line steps =
    line (codes "steps " ++ decimal (length steps.extract) ++ codes " "
    ++ decimal (length steps.patch)
    ++ codes " " ++ decimal (length steps.configure) ++ codes " " ++ decimal (length steps.build)
    ++ codes " " ++ decimal (length steps.stage))

-- a command: the count of its words, and each on a line of its own
abbrev pub command_lines : List (List ℕ) → List ℕ
command_lines words = count_line (codes "command ") (length words) ++ flat_map line words

abbrev pub step_lines : Steps → List ℕ
step_lines steps =
    steps_line steps ++ flat_map command_lines steps.extract ++ flat_map command_lines steps.patch
    ++ flat_map command_lines steps.configure ++ flat_map command_lines steps.build
    ++ flat_map command_lines steps.stage

abbrev pub recipe_text : List FileItem → JobView → List ℕ
recipe_text base job =
    line (codes "poudriere-recipe 1")
    ++ name_lines job.name job.origin job.flavor
    ++ option_lines job.options
    ++ depend_lines job.depends
    ++ step_lines job.steps
    ++ file_pieces (codes "files ") job.files
    ++ file_pieces (codes "base ") base

-- the digest by which a package tells its recipe
abbrev pub recipe : List FileItem → JobView → Digest
recipe base job = digest_of (recipe_text base job)
