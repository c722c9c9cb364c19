-- Worked examples of builds, of what comes of a plan and of what is printed, for tests. A port `a/NAME` makes `NAME-1.0`.
use Rattle.std.specs.Prelude.{ℕ, Bool, false, List, [], ◌∷◌, ◌++◌, map, codes, bytes_eq, unwrap_or, if◌then◌else◌, Option, Some, None}
use Rattle.std.specs.List.{flat_map}
use Rattle.bulk_base.specs.Words.{words_of}
use Rattle.bulk_base.specs.Number.{number_of}
use Rattle.bulk_model.specs.declared.depend.DepKind.{DepKind}
use Rattle.bulk_model.specs.declared.depend.DepKind.TheVariants.{Build, Lib, Run}
use Rattle.bulk_model.specs.declared.outcome.Outcome.{Outcome}
use Rattle.bulk_model.specs.declared.outcome.Outcome.TheVariants.{Built as MadePackage}
use Rattle.bulk_model.specs.declared.plan.Edge.{Edge}
use Rattle.bulk_model.specs.declared.plan.Kept.{Kept as KeptPackages}
use Rattle.bulk_model.specs.declared.results.Status.{Status}
use Rattle.bulk_model.specs.declared.results.Status.TheVariants.{Built, Kept}
use Rattle.bulk_model.specs.Views.{JobView, PackageView}
use Rattle.bulk_model.specs.PlanView.{PlanView}
use Rattle.bulk_base.specs.declared.file.FileItem.{FileItem}
use Rattle.bulk_model.specs.Bake.{Runs, bake, package_of}
use Rattle.bulk_model.specs.Digests.{no_digest}
use Rattle.bulk_model.specs.DryLists.{dry_lists}
use Rattle.bulk_model.specs.Order.{order}
use Rattle.bulk_model.specs.Results.{res_given}
use Rattle.bulk_model.specs.Lines.{line}

-- a port without files and commands
abbrev pub bare : List ℕ → List ℕ → JobView
bare name origin =
    record { name = name; origin = origin; flavor = None; options = []; depends = []; files = []; steps = record { extract = []; patch = []; configure = []; build = []; stage = [] } }

abbrev pub port : List ℕ → JobView
port name = bare (name ++ codes "-1.0") (codes "a/" ++ name)

-- a port with the lines of the commands that build it and stage it
abbrev pub port_with : List ℕ → List (List ℕ) → List (List ℕ) → JobView
port_with name build stage =
    record {
      name = (port name).name;
      origin = (port name).origin;
      flavor = None;
      options = [];
      depends = [];
      files = [];
      steps = record { extract = []; patch = []; configure = []; build = map words_of build; stage = map words_of stage };
    }

-- a package with a file
abbrev pub package_with : List ℕ → List ℕ → List ℕ → PackageView
package_with name path bytes = package_of [] (port name) [] (record { path = path; bytes = bytes } ∷ [])

-- the status of a command: `true` does nothing, `exit N` ends with N, and there is no other program
abbrev pub status : List (List ℕ) → ℕ
status (program ∷ []) = if bytes_eq program (codes "true") then 0 else 127
status (program ∷ number ∷ []) = if bytes_eq program (codes "exit") then unwrap_or (number_of number) 2 else 127
status _ = 127

-- commands that change no file
abbrev pub still : Runs
still words folder = (status words, folder)

-- what comes of a build over these packages by such commands
abbrev pub baked : JobView → List PackageView → Outcome
baked job packages = bake still [] job packages

-- an edge
abbrev pub to : DepKind → ℕ → Edge
to kind n = record { kind = kind; to = n }

-- ports by name, each with its dependencies and why it is ignored
abbrev pub plan_of : List (List ℕ × List Edge × Option (List ℕ)) → PlanView
plan_of ports = record { jobs = map (λ p. port p.0) ports; edges = map (λ p. p.1) ports; ignored = map (λ p. p.2) ports; wanted = []; base = []; boosted = map (λ p. false) ports }

-- the package of a name, without files
abbrev pub plain : List ℕ → PackageView
plain name = package_of [] (port name) [] []

abbrev pub made : List ℕ → Option Outcome
made name = Some (MadePackage (plain name))

abbrev pub made_by : JobView → Option Outcome
made_by job = Some (MadePackage (package_of [] job [] []))

abbrev pub built : List ℕ → Status
built name = Built (plain name)

abbrev pub kept : List ℕ → Status
kept name = Kept (plain name)

-- what came of each node where nothing was kept and builds came to these
abbrev pub come : PlanView → List (Option Outcome) → List Status
come plan outcomes = res_given outcomes plan (record { packages = map (λ job. None) plan.jobs })

-- the same where these packages were kept
abbrev pub come_over : PlanView → List (Option PackageView) → List (Option Outcome) → List Status
come_over plan packages outcomes = res_given outcomes plan (let k : KeptPackages = record { packages = packages } in k)

-- lines of text
abbrev pub text : List (List ℕ) → List ℕ
text lines = flat_map line lines

-- `left` and `right` are built with `bot`, and `top` is linked with both
abbrev pub diamond : PlanView
diamond = plan_of ((codes "bot", [], None) ∷ (codes "left", to Build 0 ∷ [], None) ∷ (codes "right", to Build 0 ∷ [], None) ∷ (codes "top", to Lib 1 ∷ to Lib 2 ∷ [], None) ∷ [])

-- `top` is built with `b1` and `b2`
abbrev pub fork : PlanView
fork = plan_of ((codes "b1", [], None) ∷ (codes "b2", [], None) ∷ (codes "top", to Build 0 ∷ to Build 1 ∷ [], None) ∷ [])

-- `app` is built with `lib`, which is linked with `low`, which runs `run`, which is built with `tool`
abbrev pub ladder : PlanView
ladder = plan_of ((codes "app", to Build 1 ∷ [], None) ∷ (codes "lib", to Lib 2 ∷ [], None) ∷ (codes "low", to Run 3 ∷ [], None) ∷ (codes "run", to Build 4 ∷ [], None) ∷ (codes "tool", [], None) ∷ [])

-- `u` runs `i`, which is ignored
abbrev pub ignoring : PlanView
ignoring = plan_of ((codes "i", [], Some (codes "no")) ∷ (codes "u", to Run 0 ∷ [], None) ∷ [])

-- `u` is built with `t1` and `t2`, and `v` runs `u`
abbrev pub tools : PlanView
tools = plan_of ((codes "t1", [], None) ∷ (codes "t2", [], None) ∷ (codes "u", to Build 0 ∷ to Build 1 ∷ [], None) ∷ (codes "v", to Run 2 ∷ [], None) ∷ [])

-- `m` is built with `z`, and `a` stands alone
abbrev pub apart : PlanView
apart = plan_of ((codes "a", [], None) ∷ (codes "m", to Build 2 ∷ [], None) ∷ (codes "z", [], None) ∷ [])

-- a plan with marks of the nodes that are boosted
abbrev pub boosting : List Bool → PlanView → PlanView
boosting marks plan = record { jobs = plan.jobs; edges = plan.edges; ignored = plan.ignored; wanted = plan.wanted; base = plan.base; boosted = marks }

abbrev pub none_kept : PlanView → KeptPackages
none_kept plan = record { packages = map (λ job. None) plan.jobs }

-- the order of one builder where nothing is kept and all builds succeed
abbrev pub order_of : PlanView → List ℕ
order_of plan = order plan (none_kept plan) (come plan (map made_by plan.jobs))

-- what a dry run prints where nothing is kept and nothing deleted
abbrev pub dry_text_of : PlanView → List ℕ
dry_text_of plan = dry_lists plan (none_kept plan) [] []

-- the file `hello`, which holds `hi` and a line feed
abbrev pub hello : FileItem
hello = record { path = codes "hello"; bytes = codes "hi\n" }

-- the port `a/x`, which stages it
abbrev pub port_hello : JobView
port_hello = record {
  name = codes "x-1.0";
  origin = codes "a/x";
  flavor = None;
  options = [];
  depends = [];
  steps = record { extract = []; patch = []; configure = []; build = []; stage = words_of (codes "cp work/hello stage/hello") ∷ [] };
  files = hello ∷ [];
}

-- a package of it without a recipe, as a record of version 1 tells it
abbrev pub package_hello : PackageView
package_hello = record { name = codes "x-1.0"; origin = codes "a/x"; flavor = None; recipe = no_digest; options = []; depends = []; files = hello ∷ [] }
