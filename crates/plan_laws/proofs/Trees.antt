-- The jobs of a tree, and their recipes.
use Rattle.std.proofs.Common.{◌≡◌, ◌∙◌, ℕ, Bool, true, false, List, ap, sym, refl, cond}
use Rattle.std.specs.Prelude.{Option, Some, None, Result, Ok, Err, is_some}
use Rattle.std.specs.Option.{option_map, option_and_then}
use Rattle.std.specs.Result.{result_ok}
use Rattle.std.proofs.lemmas.Option.{same_Some}
use Rattle.bulk_base.specs.declared.file.FileItem.{FileItem}
use Rattle.bulk_model.specs.declared.depend.Depend.{Depend}
use Rattle.bulk_model.specs.declared.digest.Digest.{Digest}
use Rattle.bulk_model.specs.Recipe.{recipe}
use Rattle.bulk_model.specs.Views.{JobView}
use Rattle.dep_graph.specs.Graphs.{has}
use Rattle.outside.specs.Contents.{Contents}
use Rattle.tree_index.specs.Depends.{depends_of}
use Rattle.tree_index.specs.Index.{IndexView}
use Rattle.tree_index.specs.declared.node.NodeInfo.{NodeInfo}
use Rattle.job_files.specs.NodeFiles.{node_files}
use Rattle.job_files.specs.declared.fault.PlanError.{PlanError}
use Rattle.job_files.specs.declared.gathered.Gathered.{Gathered}
use Rattle.plan_maker.specs.Jobs.{node_at, job_with}
use Rattle.plan_maker.specs.Recipes.{recipe_at, recipe_where, job_alone, job_to_build}
use Rattle.plan_maker.specs.TreeJobs.{tree_job, job_by_tree}
use Rattle.plan_laws.specs.Laws.{IsOfTheTree}
use Rattle.plan_laws.proofs.Reading.{files_are}

-- ---- a job that is made by itself is the tree's

alone_at : (content : Contents) (node : NodeInfo) (depends : List Depend) (job : JobView) (r : Result Gathered PlanError) → is_some node.ignored ≡ false → node_files content node 0 ≡ r
    → option_map (λ (g : Gathered). job_with node depends g.files) (result_ok r) ≡ Some job → job_by_tree content node depends ≡ Some job
alone_at content node depends job (Err e) i k h = absurd (cc)
alone_at content node depends job (Ok g) i k h = ap (option_map (job_with node depends)) (files_are content node 0 g i k) ∙ h

of_depends : (content : Contents) (node : NodeInfo) (job : JobView) (found : Option (List Depend)) → is_some node.ignored ≡ false → option_and_then (job_alone content node) found ≡ Some job
    → option_and_then (job_by_tree content node) found ≡ Some job
of_depends content node job None i h = absurd (cc)
of_depends content node job (Some depends) i h = alone_at content node depends job (node_files content node 0) i refl h

built_at : (content : Contents) (index : IndexView) (n : ℕ) (job : JobView) (b : Bool) → is_some (node_at index n).ignored ≡ b → cond b None (option_and_then (job_alone content (node_at index n)) (depends_of index n)) ≡ Some job
    → cond b None (option_and_then (job_by_tree content (node_at index n)) (depends_of index n)) ≡ Some job
built_at content index n job true i h = absurd (cc)
built_at content index n job false i h = of_depends content (node_at index n) job (depends_of index n) i h

pub built_is : (content : Contents) (index : IndexView) (n : ℕ) (job : JobView) → job_to_build content index n ≡ Some job → tree_job content index n ≡ Some job
unfolding tree_job
built_is content index n job h = built_at content index n job (is_some (node_at index n).ignored) refl h

-- ---- a recipe that is there

of_job : (content : Contents) (index : IndexView) (base : List FileItem) (n : ℕ) (digest : Digest) (job : Option JobView) → job_to_build content index n ≡ job → option_map (recipe base) job ≡ Some digest → IsOfTheTree content index base n digest
of_job content index base n digest None e h = absurd (cc)
of_job content index base n digest (Some job) e h = record { job = job; stands = built_is content index n job e; digests = sym (same_Some (recipe base job) digest h) }

asked_at : (content : Contents) (index : IndexView) (base : List FileItem) (n : ℕ) (digest : Digest) (asked : Bool) → recipe_where content index base asked n ≡ Some digest → IsOfTheTree content index base n digest
asked_at content index base n digest true h = of_job content index base n digest (job_to_build content index n) refl h
asked_at content index base n digest false h = absurd (cc)

pub recipe_is : (content : Contents) (index : IndexView) (base : List FileItem) (nodes : List ℕ) (n : ℕ) (digest : Digest) → recipe_at content index base nodes n ≡ Some digest → IsOfTheTree content index base n digest
recipe_is content index base nodes n digest h = asked_at content index base n digest (has nodes n) h
