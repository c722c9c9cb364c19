-- A built package may be added.
use Rattle.std.proofs.Common.{◌≡◌, ℕ, ◌<◌, Bool, true, false, List, refl, ap, sym, subst, ◌∙◌, Option, Some, None, cond, inl, inr, ◌⊎◌}
use Rattle.std.specs.Prelude.{Contains}
use Rattle.std.specs.List.{list_all, filter_map}
use Rattle.std.specs.Option.{option_map_or}
use Rattle.std.proofs.lemmas.Option.{same_Some}
use Rattle.bulk_base.proofs.Members.{filter_map_agree}
use Rattle.bulk_model.specs.declared.outcome.Outcome.{Outcome}
use Rattle.bulk_model.specs.declared.outcome.Outcome.TheVariants.{Built as MadePackage, Failed as FailedBuild}
use Rattle.bulk_model.specs.declared.plan.Kept.{Kept as KeptPackages}
use Rattle.bulk_model.specs.declared.results.Status.{Status}
use Rattle.bulk_model.specs.declared.results.Status.TheVariants.{Kept, Built, Ignored, Skipped}
use Rattle.bulk_model.specs.Bake.{Runs, bake}
use Rattle.bulk_model.specs.Installs.{installs}
use Rattle.bulk_model.specs.PlanFacts.{IsPlan}
use Rattle.bulk_model.specs.PlanView.{PlanView, count, job_at, node_at, is_ignored, depends}
use Rattle.bulk_model.specs.Recipe.{recipe}
use Rattle.bulk_model.specs.Results.{kept_at, bakes_by, is_good, package_in, status_of_outcome, status_at}
use Rattle.bulk_model.specs.Sound.{Recipe, recipe_of, has_all, IsClosed, IsWithin, IsMade, IsSound, HasNames}
use Rattle.bulk_model.specs.Views.{JobView, PackageView, node_of_package}
use Rattle.model_laws.proofs.Closing.{has_all_more}
use Rattle.model_laws.proofs.Following.{results_unfold}
use Rattle.model_laws.proofs.Graph.{installs_are}
use Rattle.model_laws.proofs.Rounds.{made_moves}
use Rattle.incremental_law.specs.Stores.{IsStore}
use Rattle.incremental_law.specs.Clean.{AreMade}
use Rattle.incremental_law.specs.Saves.{AreOfResults}
use Rattle.incremental_law.proofs.Baking.{SaysJob, says_job}
use Rattle.incremental_law.proofs.Matching.{ArePlaced, PackageAt, package_at, kept_of, kept_is, is_kept, are_installs}

-- what a status with a package comes from
abbrev pub comes_from : Option PackageView → Bool → Bool → Outcome → Status
comes_from kept ignored good r = option_map_or Kept kept (cond ignored Ignored (cond good (status_of_outcome r) Skipped))

pub record IsOf (ignored : Bool) (r : Outcome) (p : PackageView) : Type 0 where
  pub free : ignored ≡ false
  pub gives : r ≡ MadePackage p

of_built : (kept : Option PackageView) (ignored good : Bool) (r : Outcome) (p : PackageView) → comes_from kept ignored good r ≡ Built p → IsOf ignored r p
of_built (Some q) ignored good r p h = absurd (cc h)
of_built None true good r p h = absurd (cc h)
of_built None false false r p h = absurd (cc h)
of_built None false true (MadePackage q) p h = record { free = refl; gives = cc h }
of_built None false true (FailedBuild phase code) p h = absurd (cc h)

of_package : (kept : Option PackageView) (ignored good : Bool) (r : Outcome) (p : PackageView) → package_in (comes_from kept ignored good r) ≡ Some p → (kept ≡ Some p) ⊎ IsOf ignored r p
of_package (Some q) ignored good r p h = inl h
of_package None true good r p h = absurd (cc h)
of_package None false false r p h = absurd (cc h)
of_package None false true (MadePackage q) p h = inr (record { free = refl; gives = cc h })
of_package None false true (FailedBuild phase code) p h = absurd (cc h)

-- what is built at a node says the node's job, and the node is not ignored
pub record Comes (plan : PlanView) (n : ℕ) (p : PackageView) : Type 0 where
  pub free : is_ignored plan n ≡ false
  pub says : SaysJob plan.base (job_at plan n) p

abbrev pub res : Runs → PlanView → KeptPackages → ℕ → Status
res runs plan kept n = status_at (bakes_by runs plan) plan kept n

abbrev pub packages_of : Runs → PlanView → KeptPackages → ℕ → List PackageView
packages_of runs plan kept n = filter_map (λ m. package_in (res runs plan kept m)) (installs plan n)

pub built_is : (runs : Runs) (plan : PlanView) (kept : KeptPackages) → IsPlan plan → (n : ℕ) (p : PackageView) → n < count plan → res runs plan kept n ≡ Built p
    → IsOf (is_ignored plan n) (bake runs plan.base (job_at plan n) (packages_of runs plan kept n)) p
built_is runs plan kept is_plan n p l built =
    of_built (kept_at kept n) (is_ignored plan n) (list_all (λ m. is_good (res runs plan kept m)) (depends plan n)) (bake runs plan.base (job_at plan n) (packages_of runs plan kept n)) p
    (sym (results_unfold (bakes_by runs plan) plan kept is_plan n l) ∙ built)

pub built_says : (runs : Runs) (plan : PlanView) (kept : KeptPackages) → IsPlan plan → (n : ℕ) (p : PackageView) → n < count plan → res runs plan kept n ≡ Built p → Comes plan n p
built_says runs plan kept is_plan n p l built =
    let new = built_is runs plan kept is_plan n p l built in
    record { free = new.free; says = says_job runs plan.base (job_at plan n) (packages_of runs plan kept n) p new.gives }

-- what has a package at a node says the node's job
pub package_says : (runs : Runs) (plan : PlanView) (kept : KeptPackages) → IsPlan plan → AreMade runs plan kept → (n : ℕ) (q : PackageView) → n < count plan → package_in (res runs plan kept n) ≡ Some q → Comes plan n q
package_says runs plan kept is_plan made n q l e =
    elim (of_package (kept_at kept n) (is_ignored plan n) (list_all (λ m. is_good (res runs plan kept m)) (depends plan n)) (bake runs plan.base (job_at plan n) (packages_of runs plan kept n)) q
    (ap package_in (sym (results_unfold (bakes_by runs plan) plan kept is_plan n l)) ∙ e)) [
      | inl k ↦ record { free = made.free n q l k; says = says_job runs plan.base (job_at plan n) (filter_map (kept_at kept) (installs plan n)) q (made.made n q l k) }
      | inr f ↦ record { free = f.free; says = says_job runs plan.base (job_at plan n) (packages_of runs plan kept n) q f.gives }
    ]

module _ (runs : Runs) (table : List Recipe) (plan : PlanView) (tree : List JobView) (own : PackageView → Bool) (kept : KeptPackages) (members more : List PackageView) (n : ℕ) (p : PackageView)
    (store : IsStore runs table plan tree own members) (made : AreMade runs plan kept) (closed : IsClosed members)
    (l : n < count plan) (built : res runs plan kept n ≡ Built p)
    (only : (q : PackageView) → Contains more q → Contains members q ⊎ (q ≡ p)) (within : IsWithin members more) (there : Contains more p)
    (names : HasNames more) (of : AreOfResults runs plan kept more) (all : has_all more p ≡ true) where
  abbrev packages : ℕ → List PackageView
  packages d = packages_of runs plan kept d

  comes : (d : ℕ) (q : PackageView) → d < count plan → Contains more q → node_of_package q ≡ node_at plan d → Comes plan d q
  comes d q b c e = package_says runs plan kept store.is_plan made d q b (of d q b c e)

  placed : ArePlaced plan more
  placed = record {
    one = λ d q r b c k e f. same_Some q r (sym (of d q b c e) ∙ of d r b k f);
    needs = λ d q b c e. (comes d q b c e).says.needs ∙ sym (store.orderly.needs d b (comes d q b c e).free);
  }

  more_closed : IsClosed more
  more_closed q c = elim (only q c) [ inl m ↦ has_all_more members more within q (closed q m) | inr e ↦ subst (λ r. has_all more r ≡ true) (sym e) all ]

  new : IsOf (is_ignored plan n) (bake runs plan.base (job_at plan n) (packages n)) p
  new = built_is runs plan kept store.is_plan n p l built

  new_says : SaysJob plan.base (job_at plan n) p
  new_says = (built_says runs plan kept store.is_plan n p l built).says

  new_kept : kept_of plan more n ≡ Some p
  new_kept = is_kept plan store.is_plan store.orderly more more_closed placed n p l there new_says.node

  -- the members at the nodes that are installed are those of the results
  same : filter_map (kept_of plan more) (installs plan n) ≡ packages n
  same = filter_map_agree (kept_of plan more) (λ m. package_in (res runs plan kept m)) (installs plan n)
      (λ d c. let a : PackageAt plan store.is_plan store.orderly more more_closed placed n p l new_kept d =
      package_at plan store.is_plan store.orderly more more_closed placed n p l new_kept (count plan) d (installs_are plan n d c) in
      let at = kept_is plan store.is_plan store.orderly more more_closed placed d a.one a.kept in
      a.kept ∙ sym (of d a.one a.below at.0 at.1))

  new_made : IsMade runs table more p
  new_made = record {
    recipe = recipe_of plan.base (job_at plan n);
    stands = store.agrees (job_at plan n) (store.of_tree.built n l new.free);
    digest = sym new_says.recipe_is;
    packages = filter_map (kept_of plan more) (installs plan n);
    installed = are_installs plan store.is_plan store.orderly more more_closed placed n p l new_kept;
    made = ap (bake runs plan.base (job_at plan n)) same ∙ new.gives;
  }

  each_made : (q : PackageView) → Contains more q → IsMade runs table more q
  each_made q c =
      elim (only q c) [
        | inl m ↦ made_moves more names runs table members more within (λ r k. k) closed more_closed q m c (store.sound members (λ r k. k) closed q m)
        | inr e ↦ subst (λ r. IsMade runs table more r) (sym e) new_made
      ]

  pub one_more_sound : IsSound runs table more × IsClosed more
  one_more_sound = (
    (λ some inside some_closed q c. made_moves more names runs table more some (λ r k. k) inside more_closed some_closed q (inside q c) c (each_made q (inside q c))),
    more_closed,
  )
