-- The laws.
use Rattle.std.specs.Prelude.{◌≡◌, ℕ, Bool, false, ◌<◌, ◌⊎◌, List, [], ◌++◌, map, Contains, IsTrue}
use Rattle.outside.specs.Changes.{replayed}
use Rattle.outside.specs.Contents.{Contents}
use Rattle.outside.specs.declared.change.Change.{Change}
use Rattle.bulk_base.specs.declared.file.FileItem.{FileItem}
use Rattle.bulk_model.specs.declared.plan.Kept.{Kept as KeptPackages}
use Rattle.bulk_model.specs.declared.results.Status.TheVariants.{Built}
use Rattle.bulk_model.specs.Bake.{Runs}
use Rattle.bulk_model.specs.Journal.{IsJournal}
use Rattle.bulk_model.specs.PlanFacts.{IsPlan}
use Rattle.bulk_model.specs.PlanView.{PlanView, count}
use Rattle.bulk_model.specs.Recipe.{recipe}
use Rattle.bulk_model.specs.Results.{bakes_by, status_at}
use Rattle.bulk_model.specs.Sound.{Recipe, IsTable, recipe_of, has_all, IsClosed, IsWithin, HasNames, IsSound}
use Rattle.bulk_model.specs.Trees.{IsOrderly, IsTree, IsOfTree}
use Rattle.bulk_model.specs.Views.{JobView, PackageView}
use Rattle.pkg_record.specs.Stored.{packages_in}
use Rattle.stale_check.specs.Fresh.{fresh}
use Rattle.stale_check.specs.Kept.{kept_by}
use Rattle.incremental_law.specs.Stores.{HasItsJob, IsStore}
use Rattle.incremental_law.specs.Clean.{AreMade, IsAsClean}
use Rattle.incremental_law.specs.Journals.{DeletesRest, IsPastDeletions, built_records}
use Rattle.incremental_law.specs.Runs.{OneRun, IsRunOver, AreRuns, IsDone, HasCleanPackages, content_after}
use Rattle.incremental_law.specs.Saves.{AreOfResults, AreSaves}

-- what is kept counts as built
abbrev pub KeptIsBuilt : Type 0
KeptIsBuilt =
    (runs : Runs) (plan : PlanView) (kept : KeptPackages) → IsPlan plan
    → AreMade runs plan kept → IsAsClean runs plan kept

-- what passes leave at a plan's nodes is what the nodes' own jobs give over what the plan installs
abbrev pub FreshIsMade : Type 0
FreshIsMade =
    (runs : Runs) (table : List Recipe) (plan : PlanView) (tree : List JobView)
    (own : PackageView → Bool) (members : List PackageView)
    → IsStore runs table plan tree own members
    → AreMade runs plan (kept_by plan own members)

-- a run over a store comes to what a run over an empty one comes to
abbrev pub IncrementalIsClean : Type 0
IncrementalIsClean =
    (runs : Runs) (table : List Recipe) (plan : PlanView) (tree : List JobView)
    (own : PackageView → Bool) (members : List PackageView)
    → IsStore runs table plan tree own members
    → IsAsClean runs plan (kept_by plan own members)

-- a built package may be added to members that have its dependencies
abbrev pub OneMoreStaysSound : Type 0
OneMoreStaysSound =
    (runs : Runs) (table : List Recipe) (plan : PlanView) (tree : List JobView)
    (own : PackageView → Bool) (kept : KeptPackages) (members more : List PackageView) (n : ℕ)
    (p : PackageView)
    → IsStore runs table plan tree own members → AreMade runs plan kept → IsClosed members
    → n < count plan → status_at (bakes_by runs plan) plan kept n ≡ Built p
    → ((q : PackageView) → Contains more q → Contains members q ⊎ (q ≡ p))
    → IsWithin members more → Contains more p
    → HasNames more → AreOfResults runs plan kept more → IsTrue (has_all more p)
    → IsSound runs table more × IsClosed more

-- after each save the store is sound, and each package has its dependencies
abbrev pub SavesStaySound : Type 0
SavesStaySound =
    (runs : Runs) (table : List Recipe) (plan : PlanView) (tree : List JobView)
    (own : PackageView → Bool) (members saved : List PackageView)
    → IsStore runs table plan tree own members
    → AreSaves runs plan (kept_by plan own members) (fresh own members) saved
    → IsSound runs table (saved ++ fresh own members) × IsClosed (saved ++ fresh own members)

-- a table of a tree's own jobs
abbrev pub table_of : List FileItem → List JobView → List Recipe
table_of base tree = map (recipe_of base) tree

-- an empty store is sound for every table, and a table can be made of a tree's own jobs where no two
-- of their recipes share a digest
abbrev pub EmptyIsStore : Type 0
EmptyIsStore =
    (runs : Runs) (plan : PlanView) (tree : List JobView) (own : PackageView → Bool)
    → IsPlan plan → IsOrderly plan → IsTree tree → IsOfTree plan tree
    → ((a b : JobView) → Contains tree a → Contains tree b
    → recipe plan.base a ≡ recipe plan.base b → a ≡ b)
    → ((p : PackageView) → own p ≡ false → HasItsJob tree plan.base p)
    → IsStore runs (table_of plan.base tree) plan tree own []

-- over a sound store the content after each change of a run is sound
abbrev pub EachContentIsSound : Type 0
EachContentIsSound =
    (runs : Runs) (table : List Recipe) (plan : PlanView) (tree : List JobView)
    (own : PackageView → Bool) (content : Contents) (deleted : List (List ℕ))
    (changes : List Change)
    → IsStore runs table plan tree own (packages_in content)
    → DeletesRest own (packages_in content) deleted
    → IsJournal plan (kept_by plan own (packages_in content))
    (built_records runs plan (kept_by plan own (packages_in content))) deleted changes
    → IsSound runs table (packages_in (replayed changes content))

-- and from the deletions on it has with each package all that the package records
abbrev pub EachContentIsClosed : Type 0
EachContentIsClosed =
    (runs : Runs) (table : List Recipe) (plan : PlanView) (tree : List JobView)
    (own : PackageView → Bool) (content : Contents) (deleted : List (List ℕ))
    (changes : List Change)
    → IsStore runs table plan tree own (packages_in content)
    → DeletesRest own (packages_in content) deleted
    → IsJournal plan (kept_by plan own (packages_in content))
    (built_records runs plan (kept_by plan own (packages_in content))) deleted changes
    → IsPastDeletions deleted changes
    → IsClosed (packages_in (replayed changes content))

-- any runs over trees that agree with one table, each ended or stopped anywhere, leave a sound store
abbrev pub RunsStaySound : Type 0
RunsStaySound =
    (runs : Runs) (table : List Recipe) (some : List OneRun) (content : Contents)
    → IsTable table → AreRuns runs table some content
    → IsSound runs table (packages_in content)
    → IsSound runs table (packages_in (content_after some content))

-- and one that is done leaves at its nodes the packages of a clean run
abbrev pub DoneRunsAreClean : Type 0
DoneRunsAreClean =
    (runs : Runs) (table : List Recipe) (run : OneRun) (content : Contents)
    → IsTable table → IsRunOver runs table run content
    → IsSound runs table (packages_in content) → IsDone runs run content
    → HasCleanPackages runs run.plan (replayed run.changes content)
