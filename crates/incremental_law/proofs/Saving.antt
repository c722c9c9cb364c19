-- After each save the store is sound.
use Rattle.std.proofs.Common.{Bool, ◌≡◌, ℕ, ◌<◌, List, [], ◌∷◌, ◌++◌, ap, sym, subst, ◌∙◌, Some, inl, inr}
use Rattle.std.specs.Prelude.{Contains, if◌then◌else◌}
use Rattle.std.specs.Option.{option_map_or}
use Rattle.std.proofs.lemmas.Bool.{cases_order}
use Rattle.std.proofs.lemmas.Option.{same_Some}
use Rattle.std.specs.declared.cmp.Ordering.TheVariants.{Less, Greater}
use Rattle.std.specs.Ordering.{ordering_reverse}
use Rattle.std.proofs.lemmas.Cmp.{nat_list_cmp_total}
use Rattle.bulk_base.proofs.Members.{contains_here, contains_more, contains_cases}
use Rattle.bulk_model.specs.declared.plan.Kept.{Kept as KeptPackages}
use Rattle.bulk_model.specs.declared.results.Status.TheVariants.{Kept, Ignored}
use Rattle.bulk_model.specs.Bake.{Runs}
use Rattle.bulk_model.specs.PlanFacts.{IsPlan}
use Rattle.bulk_model.specs.PlanView.{PlanView, count, job_at, node_at, is_ignored}
use Rattle.bulk_model.specs.Results.{bakes_by, kept_at, package_in, status_of_build}
use Rattle.bulk_model.specs.Sound.{Recipe, IsSound, IsClosed, HasNames}
use Rattle.bulk_model.specs.Trees.{IsOrderly}
use Rattle.bulk_model.specs.Views.{JobView, PackageView, node_of_job, node_of_package}
use Rattle.model_laws.proofs.Closing.{has_all_more}
use Rattle.model_laws.proofs.Following.{results_unfold}
use Rattle.stale_check.specs.Fresh.{fresh}
use Rattle.stale_check.proofs.Passes.{fresh_is_greatest}
use Rattle.stale_check.specs.Kept.{kept_by}
use Rattle.incremental_law.specs.Stores.{IsStore}
use Rattle.incremental_law.specs.Saves.{AreOfResults, IsSave, AreSaves}
use Rattle.incremental_law.proofs.Adding.{Comes, res, built_says, one_more_sound}
use Rattle.incremental_law.proofs.Making.{own_job, says_own, placed, closed, fresh_made, kept_at-among}
use Rattle.incremental_law.proofs.Matching.{is_kept, kept_of}
use Rattle.incremental_law.proofs.Rising.{IsBefore, before_from}

never_itself : (a : List ℕ) → IsBefore a a → ⊥
never_itself a h = let no : Less ≡ Greater = sym h ∙ nat_list_cmp_total.antisymm a a ∙ ap ordering_reverse h in cc

pub same_node : (plan : PlanView) → IsOrderly plan → (a b : ℕ) → a < count plan → b < count plan → node_at plan a ≡ node_at plan b → a ≡ b
same_node plan orderly a b l m e =
    elim (cases_order a b) [
      | inl same ↦ same
      | inr apart ↦ elim apart [
        | inl less ↦ absurd (never_itself (node_at plan b) (subst (λ x. IsBefore x (node_at plan b)) e (before_from (node_at plan a) (node_at plan b) (orderly.order a b less m))))
        | inr more ↦ absurd (never_itself (node_at plan b) (subst (λ x. IsBefore (node_at plan b) x) e (before_from (node_at plan b) (node_at plan a) (orderly.order b a more l))))
      ]
    ]

module _ (runs : Runs) (table : List Recipe) (plan : PlanView) (tree : List JobView) (own : PackageView → Bool) (members : List PackageView) (store : IsStore runs table plan tree own members) where
  abbrev kept : KeptPackages
  kept = kept_by plan own members

  abbrev left : List PackageView
  left = fresh own members

  pub record JobOf (p : PackageView) : Type 0 where
    pub job : JobView
    pub is : Contains tree job
    pub node : node_of_job job ≡ node_of_package p
    pub name : job.name ≡ p.name

  -- what holds after each save
  pub record Holds (now : List PackageView) : Type 0 where
    pub sound : IsSound runs table now
    pub closed : IsClosed now
    pub names : HasNames now
    pub of : AreOfResults runs plan kept now
    pub jobs : (p : PackageView) → Contains now p → JobOf p

  left_of : AreOfResults runs plan kept left
  left_of n p l c e =
      ap package_in (results_unfold (bakes_by runs plan) plan kept store.is_plan n l
      ∙ ap (λ o. option_map_or Kept o (if is_ignored plan n then Ignored else status_of_build (bakes_by runs plan) plan (res runs plan kept) n))
      (kept_at-among plan left n l
      ∙ is_kept plan store.is_plan store.orderly left (fresh_is_greatest own members).closed (placed runs table plan tree own members store) n p l c e))

  pub start : Holds left
  start = record {
    sound = λ some within closed p c. store.sound some (λ q d. (fresh_is_greatest own members).within q (within q d)) closed p c;
    closed = (fresh_is_greatest own members).closed;
    names = λ p q c d e. store.names p q ((fresh_is_greatest own members).within p c) ((fresh_is_greatest own members).within q d) e;
    of = left_of;
    jobs = λ p c. record {
      job = (own_job runs table plan tree own members store p c).job;
      is = (own_job runs table plan tree own members store p c).stands;
      node = (own_job runs table plan tree own members store p c).node;
      name = sym (says_own runs table plan tree own members store p c).name;
    };
  }

  module _ (now : List PackageView) (p : PackageView) (before : Holds now) (save : IsSave runs plan kept now p) where
    new : Comes plan save.node p
    new = built_says runs plan kept store.is_plan save.node p save.below save.built

    of_new : package_in (res runs plan kept save.node) ≡ Some p
    of_new = ap package_in save.built

    more_of : AreOfResults runs plan kept (p ∷ now)
    more_of n q l c e =
        elim (contains_cases p now q c) [
          | inl same ↦ (let at : save.node ≡ n = same_node plan store.orderly save.node n save.below l (sym new.says.node ∙ ap (λ (x : PackageView). node_of_package x) same ∙ e) in
              ap (λ m. package_in (res runs plan kept m)) (sym at) ∙ of_new ∙ ap Some same)
          | inr d ↦ before.of n q l d e
        ]

    job_new : JobOf p
    job_new = record { job = job_at plan save.node; is = store.of_tree.built save.node save.below new.free; node = sym new.says.node; name = sym new.says.name }

    more_jobs : (q : PackageView) → Contains (p ∷ now) q → JobOf q
    more_jobs q c = elim (contains_cases p now q c) [ inl same ↦ subst (λ x. JobOf x) same job_new | inr d ↦ before.jobs q d ]

    same_job_node : (q r : PackageView) → JobOf q → JobOf r → q.name ≡ r.name → node_of_package q ≡ node_of_package r
    same_job_node q r a b e = sym a.node ∙ ap (λ (job : JobView). node_of_job job) (store.is_tree.names a.job b.job a.is b.is (a.name ∙ e ∙ sym b.name)) ∙ b.node

    is_new : (q : PackageView) → Contains now q → p.name ≡ q.name → p ≡ q
    is_new q c e = same_Some p q (sym of_new ∙ before.of save.node q save.below c (sym (same_job_node p q job_new (before.jobs q c) e) ∙ new.says.node))

    more_names : HasNames (p ∷ now)
    more_names q r c d e =
        elim (contains_cases p now q c) [
          | inl s ↦ elim (contains_cases p now r d) [ inl t ↦ sym s ∙ t | inr k ↦ sym s ∙ is_new r k (ap (λ (x : PackageView). x.name) s ∙ e) ]
          | inr h ↦ elim (contains_cases p now r d) [ inl t ↦ sym (is_new q h (ap (λ (x : PackageView). x.name) t ∙ sym e)) ∙ t | inr k ↦ before.names q r h k e ]
        ]

    store_now : IsStore runs table plan tree own now
    store_now = record {
      is_plan = store.is_plan;
      orderly = store.orderly;
      is_tree = store.is_tree;
      of_tree = store.of_tree;
      is_table = store.is_table;
      agrees = store.agrees;
      current = store.current;
      names = before.names;
      sound = before.sound;
    }

    pub step : Holds (p ∷ now)
    step =
        let both : IsSound runs table (p ∷ now) × IsClosed (p ∷ now) =
        one_more_sound runs table plan tree own kept now (p ∷ now) save.node p store_now (fresh_made runs table plan tree own members store) before.closed save.below save.built
        (λ q c. elim (contains_cases p now q c) [ inl e ↦ inr (sym e) | inr d ↦ inl d ]) (λ q c. contains_more p now q c) (contains_here p now)
        more_names more_of (has_all_more now (p ∷ now) (λ q c. contains_more p now q c) p save.depends) in
        record { sound = both.0; closed = both.1; names = more_names; of = more_of; jobs = more_jobs }

  holds : (saved : List PackageView) → AreSaves runs plan kept left saved → Holds (saved ++ left)
  holds [] h = start
  holds (p ∷ saved) h = step (saved ++ left) p (holds saved h.1) h.0

  -- the same of other lists with the same members
  pub holds_same : (now other : List PackageView) → ((q : PackageView) → Contains other q → Contains now q) → ((q : PackageView) → Contains now q → Contains other q) → Holds now → Holds other
  holds_same now other into back h = record {
    sound = λ some within shut p c. h.sound some (λ q d. into q (within q d)) shut p c;
    closed = λ p c. has_all_more now other back p (h.closed p (into p c));
    names = λ p q c d e. h.names p q (into p c) (into q d) e;
    of = λ n p l c e. h.of n p l (into p c) e;
    jobs = λ p c. h.jobs p (into p c);
  }

pub saves_sound : (runs : Runs) (table : List Recipe) (plan : PlanView) (tree : List JobView) (own : PackageView → Bool) (members saved : List PackageView) → IsStore runs table plan tree own members
    → AreSaves runs plan (kept_by plan own members) (fresh own members) saved
    → IsSound runs table (saved ++ fresh own members) × IsClosed (saved ++ fresh own members)
saves_sound runs table plan tree own members saved store saves = ((holds runs table plan tree own members store saved saves).sound, (holds runs table plan tree own members store saved saves).closed)
