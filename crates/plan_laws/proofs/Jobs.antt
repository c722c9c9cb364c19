-- The jobs of a tree are one a node and one a name.
use Rattle.std.proofs.Common.{◌≡◌, ◌∙◌, ℕ, ◌<◌, Bool, true, false, List, length, ap, sym, refl, cond}
use Rattle.std.specs.Prelude.{Option, Some, None, is_some, Contains}
use Rattle.std.specs.Option.{option_map, option_and_then}
use Rattle.std.specs.List.{range_with_len}
use Rattle.std.proofs.lemmas.Option.{same_Some}
use Rattle.bulk_base.specs.declared.file.FileItem.{FileItem}
use Rattle.bulk_base.proofs.Members.{Given, filter_map_given, given_filter_map, range_below, below_range}
use Rattle.bulk_model.specs.declared.depend.Depend.{Depend}
use Rattle.bulk_model.specs.Trees.{IsTree}
use Rattle.bulk_model.specs.Views.{JobView, node_of_job}
use Rattle.outside.specs.Contents.{Contents}
use Rattle.tree_index.specs.Depends.{depends_of}
use Rattle.tree_index.specs.Facts.{IsNodeInfo}
use Rattle.tree_index.specs.Index.{IndexView}
use Rattle.tree_index.specs.declared.node.NodeInfo.{NodeInfo}
use Rattle.tree_index.proofs.Lists.{all_at}
use Rattle.plan_maker.specs.Jobs.{no_node, node_at, job_with}
use Rattle.plan_maker.specs.Nodes.{IsIndexView}
use Rattle.plan_maker.specs.TreeJobs.{files_by_tree, job_by_tree, tree_job, tree_jobs}
use Rattle.plan_laws.proofs.Apart.{one_node, one_package}

-- the job of a node that is not ignored, with some dependencies and files
pub record IsJobOfNode (node : NodeInfo) (job : JobView) : Type 0 where
  pub built : is_some node.ignored ≡ false
  pub depends : List Depend
  pub files : List FileItem
  pub is : job ≡ job_with node depends files

of_files : (node : NodeInfo) (depends : List Depend) (job : JobView) (found : Option (List FileItem)) → is_some node.ignored ≡ false → option_map (job_with node depends) found ≡ Some job → IsJobOfNode node job
of_files node depends job None b h = absurd (cc)
of_files node depends job (Some files) b h = record { built = b; depends = depends; files = files; is = sym (same_Some (job_with node depends files) job h) }

of_depends : (content : Contents) (node : NodeInfo) (job : JobView) (found : Option (List Depend)) → is_some node.ignored ≡ false → option_and_then (job_by_tree content node) found ≡ Some job → IsJobOfNode node job
of_depends content node job None b h = absurd (cc)
of_depends content node job (Some depends) b h = of_files node depends job (files_by_tree content node) b h

of_ignored : (content : Contents) (node : NodeInfo) (job : JobView) (found : Option (List Depend)) (b : Bool) → is_some node.ignored ≡ b → cond b None (option_and_then (job_by_tree content node) found) ≡ Some job → IsJobOfNode node job
of_ignored content node job found true e h = absurd (cc)
of_ignored content node job found false e h = of_depends content node job found e h

pub job_of_node : (content : Contents) (index : IndexView) (n : ℕ) (job : JobView) → tree_job content index n ≡ Some job → IsJobOfNode (node_at index n) job
unfolding tree_job
job_of_node content index n job h = of_ignored content (node_at index n) job (depends_of index n) (is_some (node_at index n).ignored) refl h

-- a job of a tree stands at a node of it
pub record StandsAt (content : Contents) (index : IndexView) (job : JobView) : Type 0 where
  pub number : ℕ
  pub below : number < length index.nodes
  pub is : tree_job content index number ≡ Some job

pub stands_at : (content : Contents) (index : IndexView) (job : JobView) → Contains (tree_jobs content index) job → StandsAt content index job
unfolding tree_jobs
stands_at content index job c =
    let given : Given (tree_job content index) (range_with_len 0 (length index.nodes)) job = filter_map_given (tree_job content index) (range_with_len 0 (length index.nodes)) job c in
    record { number = given.one; below = range_below (length index.nodes) given.one given.is; is = given.gives }

pub is_tree_job : (content : Contents) (index : IndexView) (n : ℕ) (job : JobView) → n < length index.nodes → tree_job content index n ≡ Some job → Contains (tree_jobs content index) job
unfolding tree_jobs
is_tree_job content index n job l e = given_filter_map (tree_job content index) (range_with_len 0 (length index.nodes)) n job (below_range (length index.nodes) n l) e

pub node_of_tree_job : (content : Contents) (index : IndexView) (n : ℕ) (job : JobView) → IsIndexView index → n < length index.nodes → tree_job content index n ≡ Some job → node_of_job job ≡ (node_at index n).node
node_of_tree_job content index n job form l e =
    let of : IsJobOfNode (node_at index n) job = job_of_node content index n job e in
    let info : IsNodeInfo (node_at index n) = all_at IsNodeInfo index.nodes n no_node form.tree.forms l in
    ap (λ (j : JobView). node_of_job j) of.is ∙ sym info.spelled

module _ (content : Contents) (index : IndexView) (form : IsIndexView index) where
  one_job : (a b : JobView) (s : StandsAt content index a) (t : StandsAt content index b) → s.number ≡ t.number → a ≡ b
  one_job a b s t e = same_Some a b (sym s.is ∙ ap (tree_job content index) e ∙ t.is)

  node_at_stand : (a : JobView) (s : StandsAt content index a) → node_of_job a ≡ (node_at index s.number).node
  node_at_stand a s = node_of_tree_job content index s.number a form s.below s.is

  name_at_stand : (a : JobView) (s : StandsAt content index a) → a.name ≡ (node_at index s.number).desc.name
  name_at_stand a s = ap (λ (j : JobView). j.name) (job_of_node content index s.number a s.is).is

  one_of_node : (a b : JobView) (s : StandsAt content index a) (t : StandsAt content index b) → node_of_job a ≡ node_of_job b → a ≡ b
  one_of_node a b s t e = one_job a b s t (one_node index form s.number t.number s.below t.below (sym (node_at_stand a s) ∙ e ∙ node_at_stand b t))

  one_of_name : (a b : JobView) (s : StandsAt content index a) (t : StandsAt content index b) → a.name ≡ b.name → a ≡ b
  one_of_name a b s t e = one_job a b s t (one_package index form s.number t.number s.below t.below (sym (name_at_stand a s) ∙ e ∙ name_at_stand b t))

  pub is_tree : IsTree (tree_jobs content index)
  is_tree = record {
    nodes = λ a b c d e. one_of_node a b (stands_at content index a c) (stands_at content index b d) e;
    names = λ a b c d e. one_of_name a b (stands_at content index a c) (stands_at content index b d) e;
  }
