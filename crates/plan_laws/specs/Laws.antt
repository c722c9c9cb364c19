-- What holds of plans, of the jobs of a tree, of distfiles and of recipes.
use Rattle.std.specs.Prelude.{◌≡◌, ℕ, false, true, ◌<◌, List, [], ◌∷◌, length, filter, slice_index_or}
use Rattle.std.specs.declared.option.Option.TheVariants.{Some}
use Rattle.std.specs.declared.result.Result.TheVariants.{Ok}
use Rattle.std.specs.FinMap.{get}
use Rattle.bulk_base.specs.declared.file.FileItem.{FileItem}
use Rattle.bulk_model.specs.declared.digest.Digest.{Digest}
use Rattle.bulk_model.specs.Digests.{digest_of}
use Rattle.bulk_model.specs.PlanView.{PlanView, count, job_at, is_ignored}
use Rattle.bulk_model.specs.Recipe.{recipe}
use Rattle.bulk_model.specs.Trees.{IsTree, IsOfTree}
use Rattle.bulk_model.specs.Views.{JobView}
use Rattle.dep_graph.specs.Graphs.{has}
use Rattle.dist_files.specs.declared.dist.Dist.{Dist}
use Rattle.dist_files.specs.Distinfo.{distinfo_of}
use Rattle.job_files.specs.Distfiles.{job_path, is_kept_for_dist}
use Rattle.outside.specs.Contents.{Contents}
use Rattle.tree_index.specs.Index.{IndexView}
use Rattle.tree_index.specs.Places.{distinfo_file}
use Rattle.plan_maker.specs.Jobs.{node_at}
use Rattle.plan_maker.specs.Needed.{needed}
use Rattle.plan_maker.specs.Nodes.{IsIndexView}
use Rattle.plan_maker.specs.Plans.{plan_in}
use Rattle.plan_maker.specs.Recipes.{recipe_at}
use Rattle.plan_maker.specs.TreeJobs.{tree_job, tree_jobs, tree_base}

-- ---- recipes

-- a recipe is that of the tree's job at its node
pub record IsOfTheTree (content : Contents) (index : IndexView) (base : List FileItem) (n : ℕ)
    (digest : Digest) : Type 0 where
  pub job : JobView
  pub stands : tree_job content index n ≡ Some job
  pub digests : digest ≡ recipe base job

-- each recipe that is there is so
abbrev pub RecipesAreOfTheTree : Type 0
RecipesAreOfTheTree =
    (content : Contents) (index : IndexView) (base : List FileItem) (nodes : List ℕ) (n : ℕ)
    (digest : Digest)
    → recipe_at content index base nodes n ≡ Some digest → IsOfTheTree content index base n digest

-- the number in the tree of the node at a place of a plan
abbrev pub number_at : IndexView → List ℕ → ℕ → ℕ
number_at index wanted n = slice_index_or (needed index wanted) n 0

-- each node of a plan that is not ignored and is asked for has the recipe of its own job over the
-- plan's base root
abbrev pub AskedNodesHaveRecipes : Type 0
AskedNodesHaveRecipes =
    (content : Contents) (index : IndexView) (wanted boost : List ℕ) (plan : PlanView)
    (nodes : List ℕ) (n : ℕ)
    → plan_in content index wanted boost ≡ Ok plan → n < count plan → is_ignored plan n ≡ false
    → has nodes (number_at index wanted n) ≡ true
    → recipe_at content index plan.base nodes (number_at index wanted n)
    ≡ Some (recipe plan.base (job_at plan n))

-- ---- the jobs of a plan and of its tree

-- a plan's jobs and its base root are the tree's
pub record IsPlanOfTree (content : Contents) (index : IndexView) (plan : PlanView) : Type 0 where
  pub jobs : IsOfTree plan (tree_jobs content index)
  pub base : plan.base ≡ tree_base content

-- each plan that is made of a tree is so
abbrev pub PlansAreOfTheirTree : Type 0
PlansAreOfTheirTree =
    (content : Contents) (index : IndexView) (wanted boost : List ℕ) (plan : PlanView)
    → IsIndexView index → plan_in content index wanted boost ≡ Ok plan
    → IsPlanOfTree content index plan

-- the jobs of a tree are one a node and one a name
abbrev pub JobsAreATree : Type 0
JobsAreATree =
    (content : Contents) (index : IndexView) → IsIndexView index → IsTree (tree_jobs content index)

-- ---- distfiles

-- a file is the one that an entry states
pub record IsAsStated (dist : Dist) (file : FileItem) : Type 0 where
  pub path : file.path ≡ job_path dist.file
  pub size : length file.bytes ≡ dist.size
  pub digest : digest_of file.bytes ≡ dist.sha256

-- files are those that entries state, one for each, in their order
abbrev pub AreAsStated : List Dist → List FileItem → Type 0
AreAsStated [] [] = Unit {0}
AreAsStated [] (file ∷ files) = ⊥
AreAsStated (dist ∷ dists) [] = ⊥
AreAsStated (dist ∷ dists) (file ∷ files) = IsAsStated dist file × AreAsStated dists files

-- the files of a job below `dist/`
abbrev pub dist_part : JobView → List FileItem
dist_part job = filter (λ file. is_kept_for_dist file.path) job.files

-- a list with these bytes is one, and the distfiles of a job are just those that it states
pub record HasItsDistfiles (bytes : List ℕ) (job : JobView) : Type 0 where
  pub dists : List Dist
  pub list : distinfo_of bytes ≡ Ok dists
  pub stated : AreAsStated dists (dist_part job)

-- each node of a plan that is not ignored and whose port has a list has just its distfiles
abbrev pub DistfilesAreAsStated : Type 0
DistfilesAreAsStated =
    (content : Contents) (index : IndexView) (wanted boost : List ℕ) (plan : PlanView) (n : ℕ)
    (bytes : List ℕ)
    → plan_in content index wanted boost ≡ Ok plan → n < count plan → is_ignored plan n ≡ false
    → get content (distinfo_file (node_at index (number_at index wanted n)).origin) ≡ Some bytes
    → HasItsDistfiles bytes (job_at plan n)
