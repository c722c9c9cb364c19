-- What a built package records: the packages at the nodes that its node depends on.
use Rattle.std.proofs.Common.{◌≡◌, ℕ, ◌<◌, Bool, true, List, ap, sym, subst, ◌∙◌, Option, Some, None}
use Rattle.std.specs.Prelude.{◌&&◌, map, bytes_eq, Contains}
use Rattle.std.specs.List.{filter_map, find, list_any}
use Rattle.std.specs.Option.{option_map_or}
use Rattle.std.proofs.lemmas.Bool.{and_parts, and_from}
use Rattle.std.proofs.lemmas.Option.{same_Some}
use Rattle.std.proofs.lemmas.Slice.Eq.{bytes_eq-Decides}
use Rattle.bulk_base.proofs.Members.{Source, map_contains, contains_map, passes_all, member_any, find_contains, contains_find, Given, filter_map_given, given_filter_map}
use Rattle.bulk_model.specs.declared.depend.Depend.{Depend}
use Rattle.bulk_model.specs.declared.depend.Recorded.{Recorded}
use Rattle.bulk_model.specs.declared.digest.Digest.{Digest}
use Rattle.bulk_model.specs.declared.plan.Edge.{Edge}
use Rattle.bulk_model.specs.declared.plan.Kept.{Kept as KeptPackages}
use Rattle.bulk_model.specs.declared.results.Status.TheVariants.{Built}
use Rattle.bulk_model.specs.Among.{is_recorded_as}
use Rattle.bulk_model.specs.Bake.{Runs, bake, mark_among, recorded}
use Rattle.bulk_model.specs.Baked.{IsPackageOf, IsOutcomeOf}
use Rattle.bulk_model.specs.Digests.{no_digest, is_same}
use Rattle.bulk_model.specs.Installs.{installs}
use Rattle.bulk_model.specs.PlanView.{PlanView, count, job_at, node_at, edges_from, depends}
use Rattle.bulk_model.specs.Results.{package_in}
use Rattle.bulk_model.specs.Sound.{Recipe, has_all}
use Rattle.bulk_model.specs.Spelling.{mark}
use Rattle.bulk_model.specs.Trees.{need_at}
use Rattle.bulk_model.specs.Views.{JobView, PackageView, node_of_package}
use Rattle.model_laws.proofs.Building.{bake_is_build}
use Rattle.model_laws.proofs.Graph.{target_below, depends_are_installed, installed_are_nodes}
use Rattle.incremental_law.specs.Stores.{IsStore}
use Rattle.incremental_law.specs.Clean.{AreMade}
use Rattle.incremental_law.proofs.Adding.{Comes, IsOf, res, packages_of, package_says, built_is}
use Rattle.incremental_law.proofs.Saving.{same_node}

-- the package at a node is there
pub record IsThere (runs : Runs) (plan : PlanView) (kept : KeptPackages) (members : List PackageView) (d : ℕ) : Type 0 where
  pub one : PackageView
  pub comes : package_in (res runs plan kept d) ≡ Some one
  pub is : Contains members one

module _ (runs : Runs) (table : List Recipe) (plan : PlanView) (tree : List JobView) (own : PackageView → Bool) (kept : KeptPackages) (some : List PackageView)
    (store : IsStore runs table plan tree own some) (made : AreMade runs plan kept) (n : ℕ) (p : PackageView) (l : n < count plan) (built : res runs plan kept n ≡ Built p) where
  abbrev packages : List PackageView
  packages = packages_of runs plan kept n

  abbrev is_meant : Depend → PackageView → Bool
  is_meant depend q = bytes_eq depend.node (node_of_package q) && bytes_eq depend.name q.name

  -- the package at a dependency's node is the first that the dependency means
  meant : (edge : Edge) (q : PackageView) → Contains (edges_from plan n) edge → package_in (res runs plan kept edge.to) ≡ Some q
      → (mark_among packages (need_at plan edge) ≡ mark q) × (is_meant (need_at plan edge) q ≡ true)
  meant edge q c e =
      let depends_on = contains_map (λ (x : Edge). x.to) (edges_from plan n) edge c in
      let below = target_below plan store.is_plan n edge.to l depends_on in
      let says = (package_says runs plan kept store.is_plan made edge.to q below e).says in
      let fits : is_meant (need_at plan edge) q ≡ true =
      and_from _ _ ((bytes_eq-Decides (node_at plan edge.to) (node_of_package q)).1 (sym says.node)) ((bytes_eq-Decides (job_at plan edge.to).name q.name).1 (sym says.name)) in
      let here = given_filter_map (λ m. package_in (res runs plan kept m)) (installs plan n) edge.to q (depends_are_installed plan store.is_plan n edge.to l depends_on) e in
      let found = contains_find (is_meant (need_at plan edge)) packages q here fits in
      let first = find_contains (is_meant (need_at plan edge)) packages found.0 found.1 in
      let from : Given (λ m. package_in (res runs plan kept m)) (installs plan n) found.0 = filter_map_given (λ m. package_in (res runs plan kept m)) (installs plan n) found.0 first.0 in
      let from_below = installed_are_nodes plan n from.one from.is in
      let its = (package_says runs plan kept store.is_plan made from.one found.0 from_below from.gives).says in
      let node = (bytes_eq-Decides (node_at plan edge.to) (node_of_package found.0)).0 (and_parts (bytes_eq (node_at plan edge.to) (node_of_package found.0)) (bytes_eq (job_at plan edge.to).name found.0.name) first.1).0 in
      let one_place : from.one ≡ edge.to = same_node plan store.orderly from.one edge.to from_below below (sym its.node ∙ sym node) in
      let same : found.0 ≡ q = same_Some found.0 q (sym from.gives ∙ ap (λ m. package_in (res runs plan kept m)) one_place ∙ e) in
      (ap (λ o. option_map_or mark o no_digest) found.1 ∙ ap mark same, fits)

  -- so a built package has all that it records where the packages of its node's dependencies are
  pub has_depends : (members : List PackageView) → ((d : ℕ) → Contains (depends plan n) d → IsThere runs plan kept members d) → has_all members p ≡ true
  has_depends members there =
      let new : IsOf _ _ p = built_is runs plan kept store.is_plan n p l built in
      let fields : IsPackageOf plan.base (job_at plan n) packages p = subst (IsOutcomeOf plan.base (job_at plan n) packages) new.gives (bake_is_build true runs plan.base (job_at plan n) packages).fields in
      let are : p.depends ≡ map (recorded packages) (map (need_at plan) (edges_from plan n)) =
      ap (λ (q : PackageView). q.depends) fields.made ∙ ap (map (recorded packages)) (sym (store.orderly.needs n l new.free)) in
      passes_all (λ d. list_any (is_recorded_as d) members) p.depends
      (λ r c.
      let f : Source (recorded packages) (map (need_at plan) (edges_from plan n)) r = map_contains (recorded packages) (map (need_at plan) (edges_from plan n)) r (subst (λ ds. Contains ds r) are c) in
      let g : Source (need_at plan) (edges_from plan n) f.one = map_contains (need_at plan) (edges_from plan n) f.one f.is in
      let t : IsThere runs plan kept members g.one.to = there g.one.to (contains_map (λ (x : Edge). x.to) (edges_from plan n) g.one g.is) in
      let m = meant g.one t.one g.is t.comes in
      let is : recorded packages (need_at plan g.one) ≡ r = ap (recorded packages) g.gives ∙ f.gives in
      let fits = and_parts (bytes_eq (node_at plan g.one.to) (node_of_package t.one)) (bytes_eq (job_at plan g.one.to).name t.one.name) m.1 in
      member_any (is_recorded_as r) members t.one t.is
      (subst (λ d. is_recorded_as d t.one ≡ true) is
      (and_from _ _ fits.0 (and_from _ _ fits.1 ((bytes_eq-Decides _ _).1 (ap (λ (d : Digest). d.bytes) m.0))))))
