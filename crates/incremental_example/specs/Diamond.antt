-- Two runs over the store of a diamond: the first builds all of it, then an option of one port is
-- changed, and the second is stopped in its middle.
use Rattle.std.specs.Prelude.{◌≡◌, ◌↔◌, ◌<◌, ℕ, Bool, true, false, not, ◌&&◌, List, [], ◌∷◌, ◌++◌, map, codes, slice_index_or, Option, Some, None, bytes_eq, Contains}
use Rattle.std.specs.List.{list_any}
use Rattle.std.specs.FinMap.{empty}
use Rattle.outside.specs.Contents.{Contents}
use Rattle.outside.specs.declared.change.Change.{Change}
use Rattle.outside.specs.declared.change.Change.TheVariants.{Put}
use Rattle.bulk_model.specs.Bake.{Runs}
use Rattle.bulk_model.specs.Digests.{is_same}
use Rattle.bulk_model.specs.FileNames.{package_file, catalogue_file}
use Rattle.bulk_model.specs.Journal.{removals}
use Rattle.bulk_model.specs.Recipe.{recipe}
use Rattle.bulk_model.specs.Results.{kept_at}
use Rattle.bulk_model.specs.Sound.{Recipe, IsTable, IsSound, recipe_of}
use Rattle.bulk_model.specs.Spelling.{spelling}
use Rattle.bulk_model.specs.Views.{JobView, PackageView, node_of_job, node_of_package}
use Rattle.pkg_record.specs.Stored.{packages_in}
use Rattle.incremental_law.specs.Runs.{OneRun, AreRuns, IsDone, content_after, kept_of_run}
use Rattle.incremental_example.specs.Ports.{name_of, bot, left, right, top, tree, diamond, bot_package, left_package, right_package, top_package}

-- ---- the runs

-- a package is put under its file name
abbrev pub save : PackageView → Change
save p = Put (package_file p.name) (spelling p)

-- a package has an own reason to go where no job of a tree has its node and its recipe
abbrev pub has_job : List JobView → PackageView → Bool
has_job jobs p =
    list_any (λ job. bytes_eq (node_of_job job) (node_of_package p)
    && is_same (recipe [] job) p.recipe) jobs

abbrev pub own_reason : List JobView → PackageView → Bool
own_reason jobs p = not (has_job jobs p)

-- the first builds all, and ends
abbrev pub first : OneRun
first = record {
  plan = diamond false;
  tree = tree false;
  own = own_reason (tree false);
  deleted = [];
  changes = save bot_package ∷ save left_package ∷ save (right_package false) ∷ save top_package
      ∷ Put catalogue_file [] ∷ [];
}

-- the files of what the option concerns
abbrev pub concerned : List (List ℕ)
concerned = package_file (name_of (codes "right")) ∷ package_file (name_of (codes "top")) ∷ []

-- the second deletes these, and is stopped before it puts `top`
abbrev pub second : OneRun
second = record {
  plan = diamond true;
  tree = tree true;
  own = own_reason (tree true);
  deleted = concerned;
  changes = removals concerned ++ save (right_package true) ∷ [];
}

-- ---- what holds of them

abbrev pub ports : List JobView
ports = bot ∷ left ∷ right false ∷ top ∷ right true ∷ []

-- the recipes of both trees
abbrev pub recipes : List Recipe
recipes = map (recipe_of []) ports

-- no two of them share a digest
abbrev pub HaveOwnDigests : Type 0
HaveOwnDigests = (a b : JobView) → Contains ports a → Contains ports b
    → recipe [] a ≡ recipe [] b → a ≡ b

abbrev pub nothing : Contents
nothing = empty

-- the contents that the two leave
abbrev pub whole : Contents
whole = content_after (first ∷ []) nothing

abbrev pub stopped : Contents
stopped = content_after (first ∷ second ∷ []) nothing

abbrev pub HoldsJust : Contents → List PackageView → Type 0
HoldsJust content members = (p : PackageView) → Contains (packages_in content) p ↔ Contains members p

-- what a run keeps of a content at the four nodes
abbrev pub KeepsJust : OneRun → Contents → List (Option PackageView) → Type 0
KeepsJust run content packages =
    (n : ℕ) → n < 4 → kept_at (kept_of_run run content) n ≡ slice_index_or packages n None

-- they are runs over an empty store as the laws ask for them, whatever commands do
pub record MeetPremises (runs : Runs) : Type 0 where
  pub table : IsTable recipes
  pub begins : IsSound runs recipes (packages_in nothing)
  pub are : AreRuns runs recipes (first ∷ second ∷ []) nothing
  -- the first ends with all four packages in the store
  pub done : IsDone runs first nothing
  pub full : HoldsJust whole (bot_package ∷ left_package ∷ right_package false ∷ top_package ∷ [])
  -- the second keeps two of them, and leaves a third that is new
  pub keeps : KeepsJust second whole (Some bot_package ∷ Some left_package ∷ None ∷ None ∷ [])
  pub leaves : HoldsJust stopped (bot_package ∷ left_package ∷ right_package true ∷ [])

abbrev pub DiamondMeetsPremises : Type 0
DiamondMeetsPremises = HaveOwnDigests → (runs : Runs) → MeetPremises runs
