-- What passes leave is what the plan's jobs give.
use Rattle.std.proofs.Common.{Bool, ◌≡◌, ℕ, ◌<◌, true, false, List, ap, sym, subst, ◌∙◌, length, Some, None, inl, inr, ◌⊎◌}
use Rattle.std.specs.Prelude.{bytes_eq, map, Contains}
use Rattle.std.specs.List.{filter_map, find}
use Rattle.std.proofs.lemmas.Bool.{cases_Bool}
use Rattle.std.proofs.lemmas.List.{get_or-map}
use Rattle.bulk_base.proofs.Members.{Source, map_contains, filter_map_agree}
use Rattle.bulk_model.specs.declared.outcome.Outcome.TheVariants.{Built as MadePackage}
use Rattle.bulk_model.specs.declared.plan.Edge.{Edge}
use Rattle.bulk_model.specs.Among.{AreInstalls}
use Rattle.bulk_model.specs.Bake.{Runs, bake}
use Rattle.bulk_model.specs.Installs.{installs}
use Rattle.bulk_model.specs.PlanView.{PlanView, count, no_job, job_at, node_at, edges_from, is_ignored, depends}
use Rattle.bulk_model.specs.Recipe.{recipe}
use Rattle.bulk_model.specs.Results.{kept_at}
use Rattle.bulk_model.specs.Sound.{Recipe, recipe_of, IsMade, IsClosed}
use Rattle.bulk_model.specs.Views.{JobView, PackageView, node_of_job, node_of_package}
use Rattle.model_laws.proofs.Graph.{installed_are_nodes, target_below}
use Rattle.model_laws.proofs.Rounds.{one_list}
use Rattle.stale_check.specs.Fresh.{IsGreatest, fresh}
use Rattle.stale_check.proofs.Passes.{fresh_is_greatest}
use Rattle.stale_check.specs.Kept.{kept_among, kept_by}
use Rattle.incremental_law.specs.Stores.{HasItsJob, IsStore}
use Rattle.incremental_law.specs.Clean.{AreMade, IsAsClean}
use Rattle.incremental_law.proofs.Alike.{kept_built}
use Rattle.incremental_law.proofs.Baking.{SaysJob, says_job}
use Rattle.incremental_law.proofs.Matching.{ArePlaced, DependOf, depend_of, kept_of, kept_is, are_installs}

-- the package that is kept at a node is the one among the packages
pub kept_at-among : (plan : PlanView) (members : List PackageView) (n : ℕ) → n < count plan → kept_at (kept_among plan members) n ≡ kept_of plan members n
kept_at-among plan members n l = get_or-map (λ (job : JobView). find (λ p. bytes_eq (node_of_job job) (node_of_package p)) members) plan.jobs n no_job None l

module _ (runs : Runs) (table : List Recipe) (plan : PlanView) (tree : List JobView) (own : PackageView → Bool) (members : List PackageView) (store : IsStore runs table plan tree own members) where
  abbrev left : List PackageView
  left = fresh own members

  passed : IsGreatest own members left
  passed = fresh_is_greatest own members

  pub own_job : (p : PackageView) → Contains left p → HasItsJob tree plan.base p
  own_job p c = store.current p (passed.free p c)

  -- it is made by that job
  pub record IsMadeBy (job : JobView) (p : PackageView) : Type 0 where
    pub packages : List PackageView
    pub installed : AreInstalls left p packages
    pub made : bake runs plan.base job packages ≡ MadePackage p

  made_by_own : (p : PackageView) (c : Contains left p) → IsMadeBy (own_job p c).job p
  made_by_own p c =
      let mine : HasItsJob tree plan.base p = own_job p c in
      let made : IsMade runs table left p = store.sound left passed.within passed.closed p c in
      let same : made.recipe ≡ recipe_of plan.base mine.job =
      store.is_table.one made.recipe (recipe_of plan.base mine.job) made.stands (store.agrees mine.job mine.stands) (made.digest ∙ sym mine.digest) in
      record { packages = made.packages; installed = made.installed; made = ap (λ (r : Recipe). bake runs r.base r.job made.packages) (sym same) ∙ made.made }

  pub says_own : (p : PackageView) (c : Contains left p) → SaysJob plan.base (own_job p c).job p
  says_own p c = let by = made_by_own p c in says_job runs plan.base (own_job p c).job by.packages p by.made

  -- at a node of the plan that job is the node's own, and the node is not ignored
  record IsOwn (n : ℕ) (job : JobView) : Type 0 where
    free : is_ignored plan n ≡ false
    same : job ≡ job_at plan n

  own_case : (n : ℕ) (p : PackageView) → n < count plan → (mine : HasItsJob tree plan.base p) → node_of_package p ≡ node_at plan n → (is_ignored plan n ≡ true) ⊎ (is_ignored plan n ≡ false) → IsOwn n mine.job
  own_case n p l mine e (inl t) = absurd (store.of_tree.ignored n mine.job l t mine.stands (mine.node ∙ e))
  own_case n p l mine e (inr f) =
      record { free = f; same = store.is_tree.nodes mine.job (job_at plan n) mine.stands (store.of_tree.built n l f) (mine.node ∙ e) }

  is_own : (n : ℕ) (p : PackageView) → n < count plan → (c : Contains left p) → node_of_package p ≡ node_at plan n → IsOwn n (own_job p c).job
  is_own n p l c e = own_case n p l (own_job p c) e (cases_Bool (is_ignored plan n))

  made_by : (n : ℕ) (p : PackageView) → n < count plan → Contains left p → node_of_package p ≡ node_at plan n → IsMadeBy (job_at plan n) p
  made_by n p l c e = subst (λ job. IsMadeBy job p) (is_own n p l c e).same (made_by_own p c)

  says : (n : ℕ) (p : PackageView) → n < count plan → Contains left p → node_of_package p ≡ node_at plan n → SaysJob plan.base (job_at plan n) p
  says n p l c e = let by = made_by n p l c e in says_job runs plan.base (job_at plan n) by.packages p by.made

  pub placed : ArePlaced plan left
  placed = record {
    one = λ n p q l c d e f. store.names p q (passed.within p c) (passed.within q d) ((says n p l c e).name ∙ sym (says n q l d f).name);
    needs = λ n p l c e. (says n p l c e).needs ∙ sym (store.orderly.needs n l (is_own n p l c e).free);
  }

  pub closed : IsClosed left
  closed = passed.closed

  at : (n : ℕ) (p : PackageView) → kept_of plan left n ≡ Some p → Contains left p × (node_of_package p ≡ node_at plan n)
  at = kept_is plan store.is_plan store.orderly left closed placed

  next : (n d : ℕ) (p : PackageView) → n < count plan → kept_of plan left n ≡ Some p → Contains (depends plan n) d → (q : PackageView) × (kept_of plan left d ≡ Some q)
  next n d p l e c =
      let s : Source (λ (edge : Edge). edge.to) (edges_from plan n) d = map_contains (λ (edge : Edge). edge.to) (edges_from plan n) d c in
      let f : DependOf plan store.is_plan store.orderly left closed placed p s.one = depend_of plan store.is_plan store.orderly left closed placed n p s.one l e s.is in
      (f.one, subst (λ m. kept_of plan left m ≡ Some f.one) s.gives f.kept)

  anew : (n : ℕ) (p : PackageView) → n < count plan → kept_of plan left n ≡ Some p → bake runs plan.base (job_at plan n) (filter_map (kept_of plan left) (installs plan n)) ≡ MadePackage p
  anew n p l e =
      let here = at n p e in
      let by = made_by n p l here.0 here.1 in
      ap (bake runs plan.base (job_at plan n))
      (one_list left p (filter_map (kept_of plan left) (installs plan n)) by.packages (are_installs plan store.is_plan store.orderly left closed placed n p l e) by.installed)
      ∙ by.made

  -- as the kept packages have them
  kept_is_of : (n : ℕ) (p : PackageView) → n < count plan → kept_at (kept_by plan own members) n ≡ Some p → kept_of plan left n ≡ Some p
  kept_is_of n p l e = sym (kept_at-among plan left n l) ∙ e

  pub fresh_made : AreMade runs plan (kept_by plan own members)
  fresh_made = record {
    closed = λ n d p l e c.
        let q = next n d p l (kept_is_of n p l e) c in
        (q.0, kept_at-among plan left d (target_below plan store.is_plan n d l c) ∙ q.1);
    free = λ n p l e. let here = at n p (kept_is_of n p l e) in (is_own n p l here.0 here.1).free;
    made = λ n p l e.
        ap (bake runs plan.base (job_at plan n))
        (filter_map_agree (kept_at (kept_by plan own members)) (kept_of plan left) (installs plan n) (λ d c. kept_at-among plan left d (installed_are_nodes plan n d c)))
        ∙ anew n p l (kept_is_of n p l e);
  }

pub incremental_clean : (runs : Runs) (table : List Recipe) (plan : PlanView) (tree : List JobView) (own : PackageView → Bool) (members : List PackageView) → IsStore runs table plan tree own members
    → IsAsClean runs plan (kept_by plan own members)
incremental_clean runs table plan tree own members store = kept_built runs plan (kept_by plan own members) store.is_plan (fresh_made runs table plan tree own members store)
