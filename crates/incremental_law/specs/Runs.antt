-- Runs over a store, one after another, each ended or stopped anywhere.
use Rattle.std.specs.Prelude.{◌≡◌, ℕ, Bool, false, ◌<◌, ◌↔◌, List, [], ◌∷◌, ◌++◌, Contains}
use Rattle.outside.specs.Changes.{replayed}
use Rattle.outside.specs.Contents.{Contents}
use Rattle.outside.specs.declared.change.Change.{Change}
use Rattle.outside.specs.declared.change.Change.TheVariants.{Put}
use Rattle.bulk_model.specs.declared.plan.Kept.{Kept as KeptPackages}
use Rattle.bulk_model.specs.declared.results.Status.TheVariants.{Built}
use Rattle.bulk_model.specs.Bake.{Runs}
use Rattle.bulk_model.specs.FileNames.{catalogue_file}
use Rattle.bulk_model.specs.Journal.{Passes, ArePuts, IsJournal, removals}
use Rattle.bulk_model.specs.PlanFacts.{IsPlan}
use Rattle.bulk_model.specs.PlanView.{PlanView, count, node_at}
use Rattle.bulk_model.specs.Results.{bakes_by, status_at}
use Rattle.bulk_model.specs.Sound.{Recipe, Agrees}
use Rattle.bulk_model.specs.Trees.{IsOrderly, IsTree, IsOfTree}
use Rattle.bulk_model.specs.Views.{JobView, PackageView, node_of_package}
use Rattle.pkg_record.specs.Stored.{packages_in}
use Rattle.stale_check.specs.Kept.{kept_by}
use Rattle.incremental_law.specs.Stores.{HasItsJob}
use Rattle.incremental_law.specs.Clean.{none_kept}
use Rattle.incremental_law.specs.Journals.{DeletesRest, built_records}

-- a run: its plan, the jobs of its tree, which packages have an own reason to go, the files that it is
-- to delete, and what it has changed
pub record OneRun : Type 0 where
  pub plan : PlanView
  pub tree : List JobView
  pub own : PackageView → Bool
  pub deleted : List (List ℕ)
  pub changes : List Change

-- what a run keeps of a content
abbrev pub kept_of_run : OneRun → Contents → KeptPackages
kept_of_run run content = kept_by run.plan run.own (packages_in content)

-- it is a run over a content, with a tree that agrees with a table
pub record IsRunOver (runs : Runs) (table : List Recipe) (run : OneRun) (content : Contents)
    : Type 0 where
  pub is_plan : IsPlan run.plan
  pub orderly : IsOrderly run.plan
  pub is_tree : IsTree run.tree
  pub of_tree : IsOfTree run.plan run.tree
  pub agrees : Agrees table run.tree run.plan.base
  pub current : (p : PackageView) → run.own p ≡ false → HasItsJob run.tree run.plan.base p
  pub rest : DeletesRest run.own (packages_in content) run.deleted
  pub journal : IsJournal run.plan (kept_of_run run content)
      (built_records runs run.plan (kept_of_run run content)) run.deleted run.changes

-- the content behind some runs
abbrev pub content_after : List OneRun → Contents → Contents
content_after [] content = content
content_after (run ∷ more) content = content_after more (replayed run.changes content)

-- each is a run over what those before it left
abbrev pub AreRuns : Runs → List Recipe → List OneRun → Contents → Type 0
AreRuns runs table [] content = Unit {0}
AreRuns runs table (run ∷ more) content =
    IsRunOver runs table run content × AreRuns runs table more (replayed run.changes content)

-- the nodes of puts
abbrev pub put_nodes : (plan : PlanView) (kept : KeptPackages) (passes : Passes) (done : List ℕ)
    (puts : List Change) → ArePuts plan kept passes done puts → List ℕ
put_nodes plan kept passes done [] are = []
put_nodes plan kept passes done (change ∷ puts) are =
    are.0 ∷ put_nodes plan kept passes (are.0 ∷ done) puts are.2

-- a run ended: all that it built was put, and then the catalogue
pub record IsDone (runs : Runs) (run : OneRun) (content : Contents) : Type 0 where
  pub puts : List Change
  pub are : ArePuts run.plan (kept_of_run run content)
      (built_records runs run.plan (kept_of_run run content)) [] puts
  pub all : (n : ℕ) (p : PackageView) → n < count run.plan
      → status_at (bakes_by runs run.plan) run.plan (kept_of_run run content) n ≡ Built p
      → Contains (put_nodes run.plan (kept_of_run run content)
      (built_records runs run.plan (kept_of_run run content)) [] puts are) n
  pub catalogue : List ℕ
  pub is : run.changes ≡ removals run.deleted ++ puts ++ Put catalogue_file catalogue ∷ []

-- at a plan's nodes a content has just the packages that a clean run builds
abbrev pub HasCleanPackages : Runs → PlanView → Contents → Type 0
HasCleanPackages runs plan content =
    (n : ℕ) (p : PackageView) → n < count plan
    → (status_at (bakes_by runs plan) plan (none_kept plan) n ≡ Built p)
    ↔ (Contains (packages_in content) p × (node_of_package p ≡ node_at plan n))
