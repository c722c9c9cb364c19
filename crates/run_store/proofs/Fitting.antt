-- What passes leave of a store fits the plan over the index.
use Rattle.std.proofs.Common.{◌≡◌, ℕ, ◌<◌, true, false, List, [], length, get_or, ap, sym, subst, ◌∙◌, refl}
use Rattle.std.specs.Prelude.{Option, Some, None, is_some, bytes_eq, slice_index_or, Contains}
use Rattle.std.specs.Option.{unwrap_or}
use Rattle.std.proofs.lemmas.List.{get_or-map, length-map}
use Rattle.std.proofs.lemmas.List.Quantifiers.{position-Some}
use Rattle.std.proofs.lemmas.Option.{get_or_from_slice_get}
use Rattle.std.proofs.lemmas.Slice.Eq.{bytes_eq-Decides}
use Rattle.bulk_model.specs.declared.digest.Recipes.{Recipes}
use Rattle.bulk_model.specs.Fit.{FitsKept}
use Rattle.bulk_model.specs.PlanFacts.{IsPlan}
use Rattle.bulk_model.specs.PlanView.{PlanView, count, no_job, job_at, node_at}
use Rattle.bulk_model.specs.Trees.{IsOrderly}
use Rattle.bulk_model.specs.Views.{JobView, PackageView, node_of_job, node_of_package}
use Rattle.plan_maker.specs.Jobs.{no_node, node_at as info_at, job_of}
use Rattle.plan_maker.specs.Needed.{needed}
use Rattle.plan_maker.specs.Nodes.{IsIndexView, AreNodes}
use Rattle.plan_maker.specs.Over.{IsOver, bare}
use Rattle.plan_laws.proofs.Apart.{one_node}
use Rattle.plan_maker.proofs.Leading.{needed_within}
use Rattle.stale_check.specs.Current.{IsCurrent}
use Rattle.stale_check.specs.Fresh.{IsGreatest}
use Rattle.stale_check.specs.Kept.{kept_among}
use Rattle.stale_check.specs.Own.{number_of, own}
use Rattle.stale_check.specs.Stale.{left}
use Rattle.stale_check.proofs.Current.{no_reason_is_current}
use Rattle.stale_check.proofs.Passes.{fresh_is_greatest}
use Rattle.tree_index.specs.Depends.{depends_of}
use Rattle.tree_index.specs.Facts.{IsNodeInfo}
use Rattle.tree_index.specs.Index.{IndexView}
use Rattle.tree_index.specs.declared.node.NodeInfo.{NodeInfo}
use Rattle.tree_index.proofs.Lists.{all_at}
use Rattle.run_store.proofs.Staying.{MayStay, kept_fits}

is_none : {X : Type 0} (o : Option X) → is_some o ≡ false → o ≡ None
is_none None e = refl
is_none (Some x) e = absurd (let t : true ≡ false = e in cc)

-- the number of a package's node is that of the node whose name it has
number_is : (index : IndexView) (p : PackageView) (m k : ℕ) → IsIndexView index → number_of index.nodes p ≡ Some m → k < length index.nodes → node_of_package p ≡ (info_at index k).node → m ≡ k
number_is index p m k form e lk same =
    let first = position-Some (λ (node : NodeInfo). bytes_eq (node_of_package p) node.node) index.nodes m no_node e in
    let here : node_of_package p ≡ (info_at index m).node = (bytes_eq-Decides (node_of_package p) (info_at index m).node).0 first.1 in
    one_node index form m k first.0 lk (sym here ∙ same)

module _ (index : IndexView) (asked : List ℕ) (recipes : Recipes) (wanted : List ℕ) (plan : PlanView) (members : List PackageView) (form : IsIndexView index) (is_plan : IsPlan plan) (over : IsOver index wanted plan) where
  -- the nodes of the tree at the plan's places
  places : List ℕ
  places = needed index wanted

  place : ℕ → ℕ
  place n = get_or places n 0

  are_nodes : AreNodes index places
  unfolding places needed
  are_nodes = needed_within index wanted places refl

  size : count plan ≡ length places
  unfolding places
  size = sym (length-map plan.jobs bare) ∙ ap length over.jobs ∙ length-map places (λ n. job_of index n [])

  within : (n : ℕ) → n < count plan → n < length places
  within n l = subst (λ m. n < m) size l

  below : (n : ℕ) → n < count plan → place n < length index.nodes
  unfolding place
  below n l = all_at (λ m. m < length index.nodes) places n 0 are_nodes (within n l)

  -- job and reason there are the node's
  job_there : (n : ℕ) → n < count plan → bare (job_at plan n) ≡ job_of index (place n) []
  unfolding places place
  job_there n l =
      sym (get_or-map bare plan.jobs n no_job no_job l) ∙ ap (λ (jobs : List JobView). get_or jobs n no_job) over.jobs
      ∙ get_or-map (λ m. job_of index m []) places n 0 no_job (within n l)

  reason_there : (n : ℕ) → n < count plan → slice_index_or plan.ignored n None ≡ (info_at index (place n)).ignored
  unfolding places place
  reason_there n l =
      ap (λ (reasons : List (Option (List ℕ))). get_or reasons n None) over.ignored
      ∙ get_or-map (λ m. (info_at index m).ignored) places n 0 None (within n l)

  spelled : (n : ℕ) → n < count plan → IsNodeInfo (info_at index (place n))
  spelled n l = all_at IsNodeInfo index.nodes (place n) no_node form.tree.forms (below n l)

  name_there : (n : ℕ) → n < count plan → node_at plan n ≡ (info_at index (place n)).node
  name_there n l = ap (λ (job : JobView). node_of_job job) (job_there n l) ∙ sym (spelled n l).spelled

  stay : List PackageView
  stay = left (own index asked recipes) members

  passed : IsGreatest (λ p. is_some (own index asked recipes p)) members stay
  unfolding stay
  passed = fresh_is_greatest (λ p. is_some (own index asked recipes p)) members

  -- a package without an own reason may stay at its node
  may_stay : (n : ℕ) (p : PackageView) → n < count plan → Contains stay p → node_of_package p ≡ node_at plan n → MayStay plan n p
  may_stay n p l c e =
      let found = no_reason_is_current index asked recipes p (is_none (own index asked recipes p) (passed.free p c)) in
      let m : ℕ = found.0 in
      let node : NodeInfo = found.1 in
      let is : IsCurrent index asked recipes p m node = found.2 in
      let same : m ≡ place n = number_is index p m (place n) form is.number (below n l) (e ∙ name_there n l) in
      let info : node ≡ info_at index (place n) = sym (get_or_from_slice_get index.nodes m node no_node is.there) ∙ ap (info_at index) same in
      record {
        allowed = ap is_some (reason_there n l) ∙ ap (λ (i : NodeInfo). is_some i.ignored) (sym info) ∙ is.allowed;
        fields = record {
          name = is.name ∙ ap (λ (i : NodeInfo). i.desc.name) info ∙ sym (ap (λ (job : JobView). job.name) (job_there n l));
          options = is.options ∙ ap (λ (i : NodeInfo). i.options) info ∙ sym (ap (λ (job : JobView). job.options) (job_there n l));
          depends =
              sym (ap (λ o. unwrap_or o []) (ap (depends_of index) (sym same) ∙ is.depends))
              ∙ sym (ap (λ (job : JobView). job.depends) (job_there n l));
        };
      }

  pub fits : IsOrderly plan → FitsKept plan (kept_among plan (left (own index asked recipes) members))
  unfolding stay
  fits orderly = kept_fits plan stay is_plan orderly passed.closed may_stay
