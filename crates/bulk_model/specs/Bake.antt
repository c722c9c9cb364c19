-- A build (docs/DEFINITIONS.md): the folder, the commands of five phases, the package of what was staged.
use Rattle.std.specs.Prelude.{ℕ, ◌==◌, ◌&&◌, nat_lt, bytes_eq, List, [], ◌∷◌, ◌++◌, map, find, codes, Option, Some, None, is_some, if◌then◌else◌}
use Rattle.std.specs.List.{list_any, flat_map}
use Rattle.std.specs.Option.{option_map_or}
use Rattle.std.specs.FinMap.{from_entries}
use Rattle.bulk_base.specs.Path.{joined, collides}
use Rattle.bulk_base.specs.declared.file.FileItem.{FileItem}
use Rattle.outside.specs.Contents.{Contents}
use Rattle.bulk_model.specs.Digests.{no_digest}
use Rattle.bulk_model.specs.Files.{files_in}
use Rattle.bulk_model.specs.declared.depend.Depend.{Depend}
use Rattle.bulk_model.specs.declared.depend.Recorded.{Recorded}
use Rattle.bulk_model.specs.declared.digest.Digest.{Digest}
use Rattle.bulk_model.specs.declared.outcome.Outcome.{Outcome}
use Rattle.bulk_model.specs.declared.outcome.Outcome.TheVariants.{Built, Failed}
use Rattle.bulk_model.specs.declared.outcome.Phase.{Phase}
use Rattle.bulk_model.specs.declared.outcome.Phase.TheVariants.{Depends, Extract, Patch, Configure, Build, Stage, Package}
use Rattle.bulk_model.specs.declared.steps.Steps.{Steps}
use Rattle.bulk_model.specs.Recipe.{recipe}
use Rattle.bulk_model.specs.Spelling.{mark}
use Rattle.bulk_model.specs.Views.{JobView, PackageView, node_of_package}
use Rattle.bulk_model.specs.Weight.{weight_of, most_weight}

-- what commands do in a room: the status and the folder after a command's words and the folder before
abbrev pub Runs : Type 0
Runs = List (List ℕ) → Contents → ℕ × Contents

-- files with their paths moved below a folder
abbrev pub placed : List ℕ → List FileItem → List (List ℕ × List ℕ)
placed folder files = map (λ file. (joined folder file.path, file.bytes)) files

-- the files that are installed: those of the packages, one after another
abbrev pub installed : List PackageView → List FileItem
installed packages = flat_map (λ p. p.files) packages

-- the first file that collides with one before it
abbrev pub first_conflict : List (List ℕ) → List FileItem → Option (List ℕ)
first_conflict seen [] = None
first_conflict seen (file ∷ files) =
    if list_any (collides file.path) seen then Some file.path
    else first_conflict (file.path ∷ seen) files

-- the folder in which a build begins: the base root, the installed files below `local/`, the port's below `work/`
abbrev pub first_folder : List FileItem → List PackageView → JobView → Contents
first_folder base packages job =
    from_entries (map (λ file. (file.path, file.bytes)) base
    ++ placed (codes "local") (installed packages)
    ++ placed (codes "work") job.files)

-- commands one after another, up to the first whose status is not 0
abbrev pub run_all : Runs → List (List (List ℕ)) → Contents → ℕ × Contents
run_all runs [] folder = (0, folder)
run_all runs (command ∷ commands) folder =
    let ran = runs command folder in
    if ran.0 == 0 then run_all runs commands ran.1 else ran

-- the five phases with their commands
abbrev pub phases_of : Steps → List (Phase × List (List (List ℕ)))
phases_of steps =
    (Extract, steps.extract) ∷ (Patch, steps.patch) ∷ (Configure, steps.configure)
    ∷ (Build, steps.build) ∷ (Stage, steps.stage) ∷ []

-- the files below `stage/`, with `stage/` taken off
abbrev pub staged : Contents → List FileItem
staged folder = files_in (codes "stage") folder

-- the digest of the record of the first package that a dependency means by node and name
abbrev pub mark_among : List PackageView → Depend → Digest
mark_among packages depend =
    option_map_or mark
    (find (λ p. bytes_eq depend.node (node_of_package p) && bytes_eq depend.name p.name) packages)
    no_digest

abbrev pub recorded : List PackageView → Depend → Recorded
recorded packages depend =
    record { kind = depend.kind; node = depend.node; name = depend.name; digest = mark_among packages depend }

-- the package of a job that was built over a base root and these packages to these files
abbrev pub package_of : List FileItem → JobView → List PackageView → List FileItem → PackageView
package_of base job packages files = record {
  name = job.name;
  origin = job.origin;
  flavor = job.flavor;
  recipe = recipe base job;
  options = job.options;
  depends = map (recorded packages) job.depends;
  files = files;
}

-- a package that is too heavy fails
abbrev pub packed : List FileItem → JobView → List PackageView → List FileItem → Outcome
packed base job packages files =
    if nat_lt most_weight (weight_of files) then Failed Package 2
    else Built (package_of base job packages files)

-- the phases one after another, up to the first that fails; then what was staged
abbrev pub run_phases : Runs → (List FileItem → Outcome) → List (Phase × List (List (List ℕ)))
    → Contents → Outcome
run_phases runs pack [] folder = pack (staged folder)
run_phases runs pack (phase ∷ phases) folder =
    let ran = run_all runs phase.1 folder in
    if ran.0 == 0 then run_phases runs pack phases ran.1 else Failed phase.0 ran.0

-- what comes of a build
abbrev pub bake : Runs → List FileItem → JobView → List PackageView → Outcome
bake runs base job packages =
    if is_some (first_conflict [] (installed packages)) then Failed Depends 1
    else run_phases runs (packed base job packages) (phases_of job.steps)
    (first_folder base packages job)
