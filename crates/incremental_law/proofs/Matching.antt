-- Packages of a closed set at the nodes of a plan: what is installed in the set is what the plan installs.
use Rattle.std.proofs.Common.{◌≡◌, ℕ, zero, suc, ◌<◌, true, List, ap, sym, subst, ◌∙◌, Option, Some, inl, inr}
use Rattle.std.specs.Prelude.{◌&&◌, map, filter, bytes_eq, Contains}
use Rattle.std.specs.List.{list_any, filter_map, find}
use Rattle.std.proofs.lemmas.Bool.{and_parts, or_cases}
use Rattle.std.proofs.lemmas.Option.{same_Some}
use Rattle.std.proofs.lemmas.Slice.Eq.{bytes_eq-Decides}
use Rattle.bulk_base.proofs.Members.{Member, any_member, Source, contains_map, map_contains, has_contains, find_contains, contains_find, filter_out_of, filter_into, Given, filter_map_given, given_filter_map}
use Rattle.bulk_model.specs.declared.depend.Depend.{Depend}
use Rattle.bulk_model.specs.declared.depend.DepKind.{DepKind}
use Rattle.bulk_model.specs.declared.depend.Recorded.{Recorded}
use Rattle.bulk_model.specs.declared.plan.Edge.{Edge}
use Rattle.bulk_model.specs.Among.{Installed, direct, later, AreInstalls, is_recorded_as}
use Rattle.bulk_model.specs.Digests.{is_same}
use Rattle.bulk_model.specs.Installs.{is_needed_later, later_depends, has, is_installed, installs}
use Rattle.bulk_model.specs.PlanFacts.{IsPlan}
use Rattle.bulk_model.specs.PlanView.{PlanView, count, nodes, node_at, edges_from, depends}
use Rattle.bulk_model.specs.Sound.{has_all, IsClosed}
use Rattle.bulk_model.specs.Spelling.{mark}
use Rattle.bulk_model.specs.Trees.{IsOrderly, need_at}
use Rattle.bulk_model.specs.Views.{PackageView, need_of, node_of_package}
use Rattle.model_laws.proofs.Closing.{Meant, meant_in}
use Rattle.model_laws.proofs.Graph.{installed_first, installed_later, installs_have, installs_are, installed_are_nodes, later_depends_are, target_below}
use Rattle.incremental_law.proofs.Rising.{before_from, range_rises, filter_rises, map_order}

recorded_node : (depend : Recorded) (q : PackageView) → is_recorded_as depend q ≡ true → depend.node ≡ node_of_package q
recorded_node depend q h = (bytes_eq-Decides depend.node (node_of_package q)).0 (and_parts (bytes_eq depend.node (node_of_package q)) (bytes_eq depend.name q.name && is_same depend.digest (mark q)) h).0

-- an edge leads to a dependency, and one of a kind that is needed later to what is needed later
edge_depends : (plan : PlanView) (n : ℕ) (e : Edge) → Contains (edges_from plan n) e → Contains (depends plan n) e.to
edge_depends plan n e c = contains_map (λ (edge : Edge). edge.to) (edges_from plan n) e c

edge_later : (plan : PlanView) (n : ℕ) (e : Edge) → Contains (edges_from plan n) e → is_needed_later e.kind ≡ true → Contains (later_depends plan n) e.to
edge_later plan n e c t =
    contains_map (λ (edge : Edge). edge.to) (filter (λ (edge : Edge). is_needed_later edge.kind) (edges_from plan n)) e
    (filter_into (λ (edge : Edge). is_needed_later edge.kind) (edges_from plan n) e c t)

-- the package at a node among some
abbrev pub kept_of : PlanView → List PackageView → ℕ → Option PackageView
kept_of plan members n = find (λ p. bytes_eq (node_at plan n) (node_of_package p)) members

-- at each node of the plan at most one member, with the dependencies of the plan
pub record ArePlaced (plan : PlanView) (members : List PackageView) : Type 0 where
  pub one : (n : ℕ) (p q : PackageView) → n < count plan → Contains members p → Contains members q → node_of_package p ≡ node_at plan n → node_of_package q ≡ node_at plan n → p ≡ q
  pub needs : (n : ℕ) (p : PackageView) → n < count plan → Contains members p → node_of_package p ≡ node_at plan n → map need_of p.depends ≡ map (need_at plan) (edges_from plan n)

module _ (plan : PlanView) (is_plan : IsPlan plan) (orderly : IsOrderly plan) (members : List PackageView) (closed : IsClosed members) (placed : ArePlaced plan members) where
  pub kept_is : (n : ℕ) (p : PackageView) → kept_of plan members n ≡ Some p → Contains members p × (node_of_package p ≡ node_at plan n)
  kept_is n p e =
      let both : Contains members p × (bytes_eq (node_at plan n) (node_of_package p) ≡ true) = find_contains (λ q. bytes_eq (node_at plan n) (node_of_package q)) members p e in
      (both.0, sym ((bytes_eq-Decides (node_at plan n) (node_of_package p)).0 both.1))

  pub is_kept : (n : ℕ) (p : PackageView) → n < count plan → Contains members p → node_of_package p ≡ node_at plan n → kept_of plan members n ≡ Some p
  is_kept n p l c e =
      let some : (q : PackageView) × (kept_of plan members n ≡ Some q) = contains_find (λ q. bytes_eq (node_at plan n) (node_of_package q)) members p c ((bytes_eq-Decides (node_at plan n) (node_of_package p)).1 (sym e)) in
      let both : Contains members some.0 × (node_of_package some.0 ≡ node_at plan n) = kept_is n some.0 some.1 in
      some.1 ∙ ap Some (placed.one n some.0 p l both.0 c both.1 e)

  -- the edge of a recorded dependency, and the recorded dependency of an edge
  pub record EdgeTo (n : ℕ) (depend : Recorded) (q : PackageView) : Type 0 where
    pub edge : Edge
    pub is : Contains (edges_from plan n) edge
    pub alike : edge.kind ≡ depend.kind
    pub below : edge.to < count plan
    pub kept : kept_of plan members edge.to ≡ Some q

  edge_to : (n : ℕ) (p : PackageView) (depend : Recorded) (q : PackageView) → n < count plan → kept_of plan members n ≡ Some p → Contains p.depends depend → Contains members q → is_recorded_as depend q ≡ true → EdgeTo n depend q
  edge_to n p depend q l e c m r =
      let at : Contains members p × (node_of_package p ≡ node_at plan n) = kept_is n p e in
      let s : Source (need_at plan) (edges_from plan n) (need_of depend) =
      map_contains (need_at plan) (edges_from plan n) (need_of depend) (subst (λ xs. Contains xs (need_of depend)) (placed.needs n p l at.0 at.1) (contains_map need_of p.depends depend c)) in
      let b : s.one.to < count plan = target_below plan is_plan n s.one.to l (edge_depends plan n s.one s.is) in
      record {
        edge = s.one;
        is = s.is;
        alike = ap (λ (need : Depend). need.kind) s.gives;
        below = b;
        kept = is_kept s.one.to q b m (sym (recorded_node depend q r) ∙ sym (ap (λ (need : Depend). need.node) s.gives));
      }

  pub record DependOf (p : PackageView) (edge : Edge) : Type 0 where
    pub depend : Recorded
    pub is : Contains p.depends depend
    pub alike : depend.kind ≡ edge.kind
    pub one : PackageView
    pub member : Contains members one
    pub meant : is_recorded_as depend one ≡ true
    pub kept : kept_of plan members edge.to ≡ Some one

  pub depend_of : (n : ℕ) (p : PackageView) (edge : Edge) → n < count plan → kept_of plan members n ≡ Some p → Contains (edges_from plan n) edge → DependOf p edge
  depend_of n p edge l e c =
      let at : Contains members p × (node_of_package p ≡ node_at plan n) = kept_is n p e in
      let s : Source need_of p.depends (need_at plan edge) =
      map_contains need_of p.depends (need_at plan edge) (subst (λ xs. Contains xs (need_at plan edge)) (sym (placed.needs n p l at.0 at.1)) (contains_map (need_at plan) (edges_from plan n) edge c)) in
      let m : Meant members s.one = meant_in members p s.one (closed p at.0) s.is in
      let b : edge.to < count plan = target_below plan is_plan n edge.to l (edge_depends plan n edge c) in
      record {
        depend = s.one;
        is = s.is;
        alike = ap (λ (need : Depend). need.kind) s.gives;
        one = m.one;
        member = m.is;
        meant = m.meant;
        kept = is_kept edge.to m.one b m.is (sym (recorded_node s.one m.one m.meant) ∙ ap (λ (need : Depend). need.node) s.gives);
      }

  module _ (n : ℕ) (p : PackageView) (l : n < count plan) (e : kept_of plan members n ≡ Some p) where
    -- what is installed in the set stands at a node that the plan installs
    pub record PlaceOf (q : PackageView) : Type 0 where
      pub at : ℕ
      pub below : at < count plan
      pub installed : is_installed plan (count plan) n at ≡ true
      pub kept : kept_of plan members at ≡ Some q

    pub place_of : (q : PackageView) → Installed members p q → PlaceOf q
    place_of q (direct depend c m r) =
        let t : EdgeTo n depend q = edge_to n p depend q l e c m r in
        record { at = t.edge.to; below = t.below; installed = installed_first plan n t.edge.to (edge_depends plan n t.edge t.is); kept = t.kept }
    place_of q (later {m = by} depend i c late m r) =
        let before : PlaceOf by = place_of by i in
        let t : EdgeTo before.at depend q = edge_to before.at by depend q before.below before.kept c m r in
        record {
          at = t.edge.to;
          below = t.below;
          installed = installed_later plan n before.at t.edge.to before.below t.below before.installed (edge_later plan before.at t.edge t.is (ap is_needed_later t.alike ∙ late));
          kept = t.kept;
        }

    -- and the other way round
    pub record PackageAt (d : ℕ) : Type 0 where
      pub one : PackageView
      pub below : d < count plan
      pub installed : Installed members p one
      pub kept : kept_of plan members d ≡ Some one

    package_of_first : (d : ℕ) → Contains (depends plan n) d → PackageAt d
    package_of_first d c =
        let s : Source (λ (edge : Edge). edge.to) (edges_from plan n) d = map_contains (λ (edge : Edge). edge.to) (edges_from plan n) d c in
        let f : DependOf p s.one = depend_of n p s.one l e s.is in
        record { one = f.one; below = target_below plan is_plan n d l c; installed = direct f.depend f.is f.member f.meant; kept = subst (λ m. kept_of plan members m ≡ Some f.one) s.gives f.kept }

    package_of_later : (m d : ℕ) → PackageAt m → Contains (later_depends plan m) d → PackageAt d
    package_of_later m d before c =
        let s : Source (λ (edge : Edge). edge.to) (filter (λ (edge : Edge). is_needed_later edge.kind) (edges_from plan m)) d =
        map_contains (λ (edge : Edge). edge.to) (filter (λ (edge : Edge). is_needed_later edge.kind) (edges_from plan m)) d c in
        let both : Contains (edges_from plan m) s.one × (is_needed_later s.one.kind ≡ true) = filter_out_of (λ (edge : Edge). is_needed_later edge.kind) (edges_from plan m) s.one s.is in
        let f : DependOf before.one s.one = depend_of m before.one s.one before.below before.kept both.0 in
        record {
          one = f.one;
          below = target_below plan is_plan m d before.below (later_depends_are plan m d c);
          installed = later f.depend before.installed f.is (ap is_needed_later f.alike ∙ both.1) f.member f.meant;
          kept = subst (λ x. kept_of plan members x ≡ Some f.one) s.gives f.kept;
        }

    pub package_at : (rounds d : ℕ) → is_installed plan rounds n d ≡ true → PackageAt d
    package_at zero d h = package_of_first d (has_contains (depends plan n) d h)
    package_at (suc rounds) d h =
        elim (or_cases (is_installed plan rounds n d) (list_any (λ m. is_installed plan rounds n m && has (later_depends plan m) d) (nodes plan)) h) [
          | inl e ↦ package_at rounds d e
          | inr t ↦
              (let by : Member (λ m. is_installed plan rounds n m && has (later_depends plan m) d) (nodes plan) = any_member (λ m. is_installed plan rounds n m && has (later_depends plan m) d) (nodes plan) t in
              let both : (is_installed plan rounds n by.one ≡ true) × (has (later_depends plan by.one) d ≡ true) = and_parts (is_installed plan rounds n by.one) (has (later_depends plan by.one) d) by.does in
              package_of_later by.one d (package_at rounds by.one both.0) (has_contains (later_depends plan by.one) d both.1))
        ]

    -- the packages at the nodes that the plan installs are those that are installed
    pub are_installs : AreInstalls members p (filter_map (kept_of plan members) (installs plan n))
    are_installs = record {
      order = map_order (kept_of plan members) (count plan) (node_at plan) (λ a b l m. before_from (node_at plan a) (node_at plan b) (orderly.order a b l m)) (λ m q b k. (kept_is m q k).1)
          (installs plan n) (filter_rises (is_installed plan (count plan) n) (nodes plan) (range_rises 0 (count plan))) (λ m c. installed_are_nodes plan n m c);
      only = λ q c.
          (let g : Given (kept_of plan members) (installs plan n) q = filter_map_given (kept_of plan members) (installs plan n) q c in
          let a : PackageAt g.one = package_at (count plan) g.one (installs_are plan n g.one g.is) in
          subst (λ x. Installed members p x) (same_Some a.one q (sym a.kept ∙ g.gives)) a.installed);
      all = λ q i.
          (let f : PlaceOf q = place_of q i in
          given_filter_map (kept_of plan members) (installs plan n) f.at q (installs_have plan n f.at f.below f.installed) f.kept);
    }
