-- When packages are those that their recipes give: a table of recipes, what it says of a tree, and soundness.
use Rattle.std.specs.Prelude.{◌≡◌, ℕ, zero, suc, Bool, List, [], ◌∷◌, length, filter, IsTrue, Contains, if◌then◌else◌}
use Rattle.std.specs.List.{list_all, list_any, fold}
use Rattle.std.specs.Ordering.{is_lt}
use Rattle.bulk_base.specs.declared.file.FileItem.{FileItem}
use Rattle.bulk_model.specs.declared.digest.Digest.{Digest}
use Rattle.bulk_model.specs.declared.outcome.Outcome.TheVariants.{Built}
use Rattle.bulk_model.specs.Among.{is_recorded_as, AreInstalls, installs_among, package_cmp}
use Rattle.bulk_model.specs.Bake.{Runs, bake}
use Rattle.bulk_model.specs.Recipe.{recipe}
use Rattle.bulk_model.specs.Views.{JobView, PackageView}

-- a table of recipes: under a digest a job with base files
pub record Recipe : Type 0 where
  pub digest : Digest
  pub job : JobView
  pub base : List FileItem

pub record IsTable (table : List Recipe) : Type 0 where
  pub one : (a b : Recipe) → Contains table a → Contains table b → a.digest ≡ b.digest → a ≡ b

abbrev pub recipe_of : List FileItem → JobView → Recipe
recipe_of base job = record { digest = recipe base job; job = job; base = base }

-- each job of a tree stands in the table under its recipe, with the tree's base files
abbrev pub Agrees : List Recipe → List JobView → List FileItem → Type 0
Agrees table jobs base = (job : JobView) → Contains jobs job → Contains table (recipe_of base job)

-- each recorded dependency has a member
abbrev pub has_all : List PackageView → PackageView → Bool
has_all members p = list_all (λ depend. list_any (is_recorded_as depend) members) p.depends

abbrev pub IsClosed : List PackageView → Type 0
IsClosed members = (p : PackageView) → Contains members p → IsTrue (has_all members p)

abbrev pub IsWithin : List PackageView → List PackageView → Type 0
IsWithin some members = (p : PackageView) → Contains some p → Contains members p

-- names are file names
abbrev pub HasNames : List PackageView → Type 0
HasNames members =
    (p q : PackageView) → Contains members p → Contains members q → p.name ≡ q.name → p ≡ q

-- the package is what its recipe gives over the members that are installed for it
pub record IsMade (runs : Runs) (table : List Recipe) (members : List PackageView)
    (p : PackageView) : Type 0 where
  pub recipe : Recipe
  pub stands : Contains table recipe
  pub digest : recipe.digest ≡ p.recipe
  pub packages : List PackageView
  pub installed : AreInstalls members p packages
  pub made : bake runs recipe.base recipe.job packages ≡ Built p

-- members are sound: each member of each closed set of them is so made over that set
abbrev pub IsSound : Runs → List Recipe → List PackageView → Type 0
IsSound runs table members =
    (some : List PackageView) → IsWithin some members → IsClosed some → (p : PackageView)
    → Contains some p → IsMade runs table some p

-- ---- the same by rounds: members are put in order, and those that lack a recorded dependency taken away until none does

-- a package in its place among others, where that is not taken yet
abbrev pub place : PackageView → List PackageView → List PackageView
place p [] = p ∷ []
place p (q ∷ packages) =
    if is_lt (package_cmp p q) then p ∷ q ∷ packages
    else (if is_lt (package_cmp q p) then q ∷ place p packages else q ∷ packages)

-- by node, then name, each once
abbrev pub by_node : List PackageView → List PackageView
by_node packages = fold (λ placed p. place p placed) [] packages

abbrev pub closed_after : ℕ → List PackageView → List PackageView
closed_after zero members = members
closed_after (suc rounds) members = closed_after rounds (filter (has_all members) members)

abbrev pub closed_part : List PackageView → List PackageView
closed_part members = closed_after (length members) members

pub record IsMadeAmong (runs : Runs) (table : List Recipe) (members : List PackageView)
    (p : PackageView) : Type 0 where
  pub recipe : Recipe
  pub stands : Contains table recipe
  pub digest : recipe.digest ≡ p.recipe
  pub made : bake runs recipe.base recipe.job (installs_among members p) ≡ Built p

abbrev pub IsSoundByRounds : Runs → List Recipe → List PackageView → Type 0
IsSoundByRounds runs table members =
    (p : PackageView) → Contains (closed_part (by_node members)) p
    → IsMadeAmong runs table (closed_part (by_node members)) p
