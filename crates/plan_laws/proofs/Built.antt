-- The jobs of a plan that is made of a tree are the tree's, and so is its base root.
use Rattle.std.proofs.Common.{◌≡◌, ◌∙◌, ℕ, zero, suc, ◌<◌, Bool, true, false, List, [], ◌∷◌, length, map, get_or, ap, sym, subst, refl, cond, arith}
use Rattle.std.specs.Prelude.{Option, Some, None, Ok, Err, is_some, slice_index_or}
use Rattle.std.specs.Option.{option_map, option_or, option_and_then, unwrap_or}
use Rattle.std.specs.List.{list_all}
use Rattle.std.proofs.lemmas.Bool.{and_from}
use Rattle.std.proofs.lemmas.List.{get_or-map}
use Rattle.std.proofs.lemmas.Option.{slice_get-get_or}
use Rattle.bulk_model.specs.declared.depend.Depend.{Depend}
use Rattle.bulk_model.specs.PlanFacts.{is_reserved}
use Rattle.bulk_model.specs.PlanView.{PlanView, count, no_job, job_at, node_at as plan_node, is_ignored}
use Rattle.bulk_model.specs.Views.{JobView, node_of_job}
use Rattle.outside.specs.Contents.{Contents, files_below}
use Rattle.path_laws.specs.Laws.{rest_of}
use Rattle.port_vars.specs.Assignment.{◌>>=◌}
use Rattle.tree_index.specs.Depends.{reaches_node, edges_by, edges_from, edges_of, depend_on, depends_of}
use Rattle.tree_index.specs.Facts.{IsNodeInfo}
use Rattle.tree_index.specs.Index.{IndexView}
use Rattle.tree_index.specs.declared.node.At.{At}
use Rattle.tree_index.specs.declared.node.At.TheVariants.{Node, Nowhere, Moved}
use Rattle.tree_index.specs.declared.node.NodeInfo.{NodeInfo}
use Rattle.tree_index.specs.declared.node.Target.{Target}
use Rattle.tree_index.proofs.Depending.{depends_some}
use Rattle.tree_index.proofs.Lists.{all_at}
use Rattle.job_files.specs.BaseFiles.{base_folder, with_base_file, base_files}
use Rattle.job_files.specs.FolderFiles.{with_file}
use Rattle.job_files.specs.Gathered.{nothing_yet}
use Rattle.job_files.specs.Turns.{in_turn}
use Rattle.job_files.specs.declared.fault.PlanError.{PlanError}
use Rattle.job_files.specs.declared.gathered.Gathered.{Gathered}
use Rattle.plan_maker.specs.Jobs.{no_node, node_at, job_with}
use Rattle.plan_maker.specs.Lost.{first_of, lost_at, lost_of}
use Rattle.plan_maker.specs.Needed.{needed}
use Rattle.plan_maker.specs.Nodes.{IsIndexView, AreNodes}
use Rattle.plan_maker.specs.Plans.{plan_in}
use Rattle.plan_maker.specs.TreeJobs.{files_by_tree, job_by_tree, tree_base, tree_job}
use Rattle.plan_maker.proofs.Leading.{needed_within}
use Rattle.plan_laws.specs.Laws.{number_at, IsPlanOfTree}
use Rattle.plan_laws.proofs.Apart.{one_node}
use Rattle.plan_laws.proofs.Jobs.{StandsAt, stands_at, is_tree_job, node_of_tree_job}
use Rattle.plan_laws.proofs.Making.{IsMade, is_made, IsJobOf, made_job, made_count}
use Rattle.plan_laws.proofs.Reading.{GoesOn, goes_on, files_are, folder_is}

-- ---- where nothing is lost, each dependency leads to a node

record BothNone {B : Type 0} (o r : Option B) : Type 0 where
  first : o ≡ None
  rest : r ≡ None

both_none : {B : Type 0} (o r : Option B) → option_or o r ≡ None → BothNone o r
both_none None r h = record { first = refl; rest = h }
both_none (Some b) r h = absurd (cc)

none_said : {A B : Type 0} (says : A → Option B) (xs : List A) (k : ℕ) (d : A) → first_of says xs ≡ None → k < length xs → says (get_or xs k d) ≡ None
none_said says [] k d h l = absurd (omega arith)
none_said says (x ∷ xs) zero d h l = (both_none (says x) (first_of says xs) h).first
none_said says (x ∷ xs) (suc k) d h l = none_said says xs k d (both_none (says x) (first_of says xs) h).rest (omega arith)

not_lost : (port : List ℕ) (at : At) → lost_at port at ≡ None → reaches_node at ≡ true
not_lost port (Node n) h = refl
not_lost port (Nowhere name) h = absurd (cc)
not_lost port (Moved old new) h = absurd (cc)

all_reach : (port : List ℕ) (targets : List Target) → first_of (λ (t : Target). lost_at port t.at) targets ≡ None → list_all (λ (t : Target). reaches_node t.at) targets ≡ true
all_reach port [] h = refl
all_reach port (t ∷ targets) h =
    let both : BothNone (lost_at port t.at) (first_of (λ (t : Target). lost_at port t.at) targets) = both_none _ _ h in
    and_from (reaches_node t.at) (list_all (λ (t : Target). reaches_node t.at) targets) (not_lost port t.at both.first) (all_reach port targets both.rest)

none_where : (b : Bool) (node : NodeInfo) → b ≡ false → cond b None (first_of (λ (t : Target). lost_at node.node t.at) node.targets) ≡ None → first_of (λ (t : Target). lost_at node.node t.at) node.targets ≡ None
none_where true node e h = absurd (cc)
none_where false node e h = h

edges_there : (size : ℕ) (node : NodeInfo) → is_some node.ignored ≡ false → lost_of node ≡ None → edges_from size node ≡ Some (edges_by size node.targets)
edges_there size node b h =
    ap (λ c. cond c (Some []) (cond (list_all (λ (t : Target). reaches_node t.at) node.targets) (Some (edges_by size node.targets)) None)) b
    ∙ ap (λ c. cond c (Some (edges_by size node.targets)) None) (all_reach node.node node.targets (none_where (is_some node.ignored) node b h))

-- ---- the base root

unreserved : (content : Contents) (path : List ℕ) (before now : Gathered) (b : Bool) (e : PlanError) → cond b (Err e) (with_file base_folder content before path) ≡ Ok now → with_file base_folder content before path ≡ Ok now
unreserved content path before now true e h = absurd (cc)
unreserved content path before now false e h = h

all_unreserved : (content : Contents) (paths : List (List ℕ)) (before now : Gathered) → in_turn (with_base_file content) before paths ≡ Ok now → in_turn (with_file base_folder content) before paths ≡ Ok now
all_unreserved content [] before now h = h
all_unreserved content (path ∷ paths) before now h =
    let on : GoesOn (with_base_file content before path) (λ next. in_turn (with_base_file content) next paths) now = goes_on _ _ now h in
    ap (λ r. r >>= (λ next. in_turn (with_file base_folder content) next paths)) (unreserved content path before on.first (is_reserved (rest_of base_folder path)) _ on.is)
    ∙ all_unreserved content paths on.first now on.then

base_is : (content : Contents) (bytes : ℕ) (root : Gathered) → base_files content bytes ≡ Ok root → root.files ≡ tree_base content
unfolding base_files
base_is content bytes root h =
    folder_is base_folder content (files_below base_folder content) (nothing_yet bytes) root (all_unreserved content (files_below base_folder content) (nothing_yet bytes) root h)

-- ---- a plan that is made of a tree

module _ (content : Contents) (index : IndexView) (wanted boost : List ℕ) (plan : PlanView) (made : IsMade content index wanted boost plan) where
  number : ℕ → ℕ
  number n = number_at index wanted n

  jobs_are : plan.jobs ≡ made.found.jobs
  jobs_are = ap (λ (p : PlanView). p.jobs) made.is

  size : count plan ≡ length (needed index wanted)
  size = ap length jobs_are ∙ made_count content index (needed index wanted) made.found made.jobs

  pub within : (n : ℕ) → n < count plan → n < length (needed index wanted)
  within n l = subst (λ m. n < m) size l

  pub job_here : (n : ℕ) → n < count plan → IsJobOf content index (number_at index wanted n) (job_at plan n)
  job_here n l =
      subst (λ (jobs : List JobView). IsJobOf content index (number_at index wanted n) (get_or jobs n no_job)) (sym jobs_are)
      (made_job content index (needed index wanted) made.found n made.jobs (subst (λ (jobs : List JobView). n < length jobs) jobs_are l))

  pub ignored_here : (n : ℕ) → n < count plan → is_ignored plan n ≡ is_some (node_at index (number_at index wanted n)).ignored
  ignored_here n l =
      ap (λ (p : PlanView). is_some (slice_index_or p.ignored n None)) made.is
      ∙ ap is_some (get_or-map (λ m. (node_at index m).ignored) (needed index wanted) n 0 None (within n l))

  are_nodes : AreNodes index (needed index wanted)
  unfolding needed
  are_nodes = needed_within index wanted (needed index wanted) refl

  pub below : (n : ℕ) → n < count plan → number_at index wanted n < length index.nodes
  below n l = all_at (λ m. m < length index.nodes) (needed index wanted) n 0 are_nodes (within n l)

  pub record HasDepends (n : ℕ) : Type 0 where
    pub list : List Depend
    pub are : depends_of index n ≡ Some list

  pub depends_here : (n : ℕ) → n < count plan → is_ignored plan n ≡ false → HasDepends (number_at index wanted n)
  unfolding edges_of
  depends_here n l b =
      let m : ℕ = number_at index wanted n in
      let node : NodeInfo = node_at index m in
      let built : is_some node.ignored ≡ false = sym (ignored_here n l) ∙ b in
      let lost : lost_of node ≡ None = none_said (λ k. lost_of (node_at index k)) (needed index wanted) n 0 made.none (within n l) in
      let edges : edges_of index m ≡ Some (edges_by (length index.nodes) node.targets) =
      ap (option_and_then (edges_from (length index.nodes))) (slice_get-get_or index.nodes m no_node (below n l)) ∙ edges_there (length index.nodes) node built lost in
      record {
        list = map (depend_on index.nodes) (edges_by (length index.nodes) node.targets);
        are = depends_some index m (edges_by (length index.nodes) node.targets) edges;
      }

  -- the job with these dependencies
  pub job_with_them : (n : ℕ) (l : n < count plan) (d : HasDepends (number_at index wanted n)) → job_at plan n ≡ job_with (node_at index (number_at index wanted n)) d.list (job_here n l).gathered.files
  job_with_them n l d =
      (job_here n l).is ∙ ap (λ o. job_with (node_at index (number_at index wanted n)) (unwrap_or o []) (job_here n l).gathered.files) d.are

  pub files_here : (n : ℕ) (l : n < count plan) → is_ignored plan n ≡ false → files_by_tree content (node_at index (number_at index wanted n)) ≡ Some (job_here n l).gathered.files
  files_here n l b =
      let here : IsJobOf content index (number_at index wanted n) (job_at plan n) = job_here n l in
      files_are content (node_at index (number_at index wanted n)) here.before here.gathered (sym (ignored_here n l) ∙ b) here.files

  pub tree_job_here : (n : ℕ) → n < count plan → is_ignored plan n ≡ false → tree_job content index (number_at index wanted n) ≡ Some (job_at plan n)
  unfolding tree_job
  tree_job_here n l b =
      let m : ℕ = number_at index wanted n in
      let node : NodeInfo = node_at index m in
      let d : HasDepends m = depends_here n l b in
      ap (λ c. cond c None (option_and_then (job_by_tree content node) (depends_of index m))) (sym (ignored_here n l) ∙ b)
      ∙ ap (option_and_then (job_by_tree content node)) d.are
      ∙ ap (option_map (job_with node d.list)) (files_here n l b)
      ∙ ap Some (sym (job_with_them n l d))

  module _ (form : IsIndexView index) where
    named : (n : ℕ) → n < count plan → plan_node plan n ≡ (node_at index (number_at index wanted n)).node
    named n l =
        let info : IsNodeInfo (node_at index (number_at index wanted n)) = all_at IsNodeInfo index.nodes (number_at index wanted n) no_node form.tree.forms (below n l) in
        ap (λ (job : JobView). node_of_job job) (job_here n l).is ∙ sym info.spelled

    ignored_case : (n : ℕ) (job : JobView) → n < count plan → is_ignored plan n ≡ true → (s : StandsAt content index job) → node_of_job job ≡ plan_node plan n → ⊥
    unfolding tree_job
    ignored_case n job l b s e =
        let m : ℕ = number_at index wanted n in
        let same : s.number ≡ m = one_node index form s.number m s.below (below n l) (sym (node_of_tree_job content index s.number job form s.below s.is) ∙ e ∙ named n l) in
        let none : tree_job content index m ≡ None = ap (λ c. cond c None (option_and_then (job_by_tree content (node_at index m)) (depends_of index m))) (sym (ignored_here n l) ∙ b) in
        let some : Some job ≡ None = sym s.is ∙ ap (tree_job content index) same ∙ none in
        cc

    pub of_tree : IsPlanOfTree content index plan
    of_tree = record {
      jobs = record {
        built = λ n l b. is_tree_job content index (number_at index wanted n) (job_at plan n) (below n l) (tree_job_here n l b);
        ignored = λ n job l b c e. ignored_case n job l b (stands_at content index job c) e;
      };
      base = ap (λ (p : PlanView). p.base) made.is ∙ base_is content made.found.bytes made.root made.base;
    }

pub plan_of_tree : (content : Contents) (index : IndexView) (wanted boost : List ℕ) (plan : PlanView) → IsIndexView index → plan_in content index wanted boost ≡ Ok plan → IsPlanOfTree content index plan
plan_of_tree content index wanted boost plan form h = of_tree content index wanted boost plan (is_made content index wanted boost plan h) form
