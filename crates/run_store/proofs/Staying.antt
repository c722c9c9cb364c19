-- Packages that are closed and each fit the plan's node of their own are kept packages that fit the plan.
use Rattle.std.proofs.Common.{◌≡◌, ℕ, ◌<◌, true, false, List, [], map, ap, sym, subst, ◌∙◌, refl, Option, Some, None}
use Rattle.std.specs.Prelude.{◌&&◌, bytes_eq, is_some, IfSome, Contains}
use Rattle.std.specs.List.{list_all, list_any, find}
use Rattle.std.proofs.lemmas.Bool.{and_parts}
use Rattle.std.proofs.lemmas.List.{get_or-map, length-map}
use Rattle.std.proofs.lemmas.Slice.Eq.{bytes_eq-Decides}
use Rattle.bulk_base.proofs.Members.{Member, any_member, Source, contains_map, map_contains, find_contains, contains_find, all_passes, passes_all}
use Rattle.bulk_model.specs.declared.depend.Depend.{Depend}
use Rattle.bulk_model.specs.declared.depend.Recorded.{Recorded}
use Rattle.bulk_model.specs.declared.plan.Edge.{Edge}
use Rattle.bulk_model.specs.Among.{is_recorded_as}
use Rattle.bulk_model.specs.Digests.{is_same}
use Rattle.bulk_model.specs.Fit.{FitsKept, MayKeep}
use Rattle.bulk_model.specs.PlanFacts.{IsPlan}
use Rattle.bulk_model.specs.PlanView.{PlanView, count, no_job, job_at, node_at, edges_from, is_ignored, depends}
use Rattle.bulk_model.specs.Results.{kept_at, is_kept}
use Rattle.bulk_model.specs.Sound.{IsClosed}
use Rattle.bulk_model.specs.Spelling.{mark}
use Rattle.bulk_model.specs.Trees.{IsOrderly, need_at}
use Rattle.bulk_model.specs.Views.{JobView, PackageView, need_of, node_of_job, node_of_package}
use Rattle.stale_check.specs.Kept.{kept_among}

target_below : (plan : PlanView) → IsPlan plan → (n d : ℕ) → n < count plan → Contains (depends plan n) d → d < count plan
target_below plan is n d l c = subst (λ to. to < count plan) c.2 (is.targets n l c.0 d c.1)

-- the package may stay at a node of the plan
pub record MayStay (plan : PlanView) (n : ℕ) (p : PackageView) : Type 0 where
  pub allowed : is_ignored plan n ≡ false
  pub fields : MayKeep (job_at plan n) p

-- each may where it has the node's name
abbrev pub AreFit : PlanView → List PackageView → Type 0
AreFit plan stay =
    (n : ℕ) (p : PackageView) → n < count plan → Contains stay p → node_of_package p ≡ node_at plan n
    → MayStay plan n p

-- the package at a node among some
found : PlanView → List PackageView → ℕ → Option PackageView
found plan stay n = find (λ p. bytes_eq (node_at plan n) (node_of_package p)) stay

module _ (plan : PlanView) (stay : List PackageView) where
  kept_is : (n : ℕ) → n < count plan → kept_at (kept_among plan stay) n ≡ found plan stay n
  unfolding found
  kept_is n l = get_or-map (λ (job : JobView). find (λ p. bytes_eq (node_of_job job) (node_of_package p)) stay) plan.jobs n no_job None l

  -- what stands there is of the node
  at : (n : ℕ) (p : PackageView) → found plan stay n ≡ Some p → Contains stay p × (node_of_package p ≡ node_at plan n)
  unfolding found
  at n p e =
      let both : Contains stay p × (bytes_eq (node_at plan n) (node_of_package p) ≡ true) = find_contains (λ q. bytes_eq (node_at plan n) (node_of_package q)) stay p e in
      (both.0, sym ((bytes_eq-Decides (node_at plan n) (node_of_package p)).0 both.1))

  -- and something stands there where a package is of the node
  there : (n : ℕ) (q : PackageView) → Contains stay q → node_of_package q ≡ node_at plan n → is_some (found plan stay n) ≡ true
  unfolding found
  there n q c e =
      let some : (p : PackageView) × (found plan stay n ≡ Some p) = contains_find (λ p. bytes_eq (node_at plan n) (node_of_package p)) stay q c ((bytes_eq-Decides (node_at plan n) (node_of_package q)).1 (sym e)) in
      ap is_some some.1

  module _ (is_plan : IsPlan plan) (orderly : IsOrderly plan) (closed : IsClosed stay) (fit : AreFit plan stay) where
    here : (n : ℕ) (p : PackageView) → n < count plan → found plan stay n ≡ Some p → MayStay plan n p
    here n p l e = let both = at n p e in fit n p l both.0 both.1

    -- a recorded dependency has a package that stays
    member : (p : PackageView) (depend : Recorded) → Contains stay p → Contains p.depends depend → Member (is_recorded_as depend) stay
    member p depend c d =
        any_member (is_recorded_as depend) stay
        (all_passes (λ (r : Recorded). list_any (is_recorded_as r) stay) p.depends depend (closed p c) d)

    -- so each edge of a kept node leads to a kept node
    edge_kept : (n : ℕ) (p : PackageView) (edge : Edge) → n < count plan → found plan stay n ≡ Some p → Contains (edges_from plan n) edge → is_some (found plan stay edge.to) ≡ true
    edge_kept n p edge l e c =
        let may : MayStay plan n p = here n p l e in
        let needs : map need_of p.depends ≡ map (need_at plan) (edges_from plan n) = may.fields.depends ∙ sym (orderly.needs n l may.allowed) in
        let s : Source need_of p.depends (need_at plan edge) =
        map_contains need_of p.depends (need_at plan edge) (subst (λ xs. Contains xs (need_at plan edge)) (sym needs) (contains_map (need_at plan) (edges_from plan n) edge c)) in
        let m : Member (is_recorded_as s.one) stay = member p s.one (at n p e).0 s.is in
        let named : s.one.node ≡ node_of_package m.one = (bytes_eq-Decides s.one.node (node_of_package m.one)).0 (and_parts (bytes_eq s.one.node (node_of_package m.one)) (bytes_eq s.one.name m.one.name && is_same s.one.digest (mark m.one)) m.does).0 in
        there edge.to m.one m.is (sym named ∙ ap (λ (need : Depend). need.node) s.gives)

    depend_kept : (n : ℕ) (p : PackageView) (d : ℕ) → n < count plan → found plan stay n ≡ Some p → Contains (depends plan n) d → is_kept (kept_among plan stay) d ≡ true
    depend_kept n p d l e c =
        let s : Source (λ (edge : Edge). edge.to) (edges_from plan n) d = map_contains (λ (edge : Edge). edge.to) (edges_from plan n) d c in
        ap is_some (kept_is d (target_below plan is_plan n d l c))
        ∙ subst (λ m. is_some (found plan stay m) ≡ true) s.gives (edge_kept n p s.one l e s.is)

    -- by what stands at a node
    allowed_at : (n : ℕ) (o : Option PackageView) → n < count plan → found plan stay n ≡ o → is_some o ≡ true → is_ignored plan n ≡ false
    allowed_at n None l e t = absurd (let f : false ≡ true = t in cc)
    allowed_at n (Some p) l e t = (here n p l e).allowed

    closed_at : (n : ℕ) (o : Option PackageView) → n < count plan → found plan stay n ≡ o → is_some o ≡ true → list_all (is_kept (kept_among plan stay)) (depends plan n) ≡ true
    closed_at n None l e t = absurd (let f : false ≡ true = t in cc)
    closed_at n (Some p) l e t = passes_all (is_kept (kept_among plan stay)) (depends plan n) (λ d c. depend_kept n p d l e c)

    fields_at : (n : ℕ) (o : Option PackageView) → n < count plan → found plan stay n ≡ o → IfSome o (MayKeep (job_at plan n))
    fields_at n None l e = tt
    fields_at n (Some p) l e = (here n p l e).fields

    fits : FitsKept plan (kept_among plan stay)
    fits = record {
      places = length-map plan.jobs (λ (job : JobView). find (λ p. bytes_eq (node_of_job job) (node_of_package p)) stay);
      allowed = λ n l k. allowed_at n (found plan stay n) l refl (sym (ap is_some (kept_is n l)) ∙ k);
      closed = λ n l k. closed_at n (found plan stay n) l refl (sym (ap is_some (kept_is n l)) ∙ k);
      fields = λ n l. subst (λ o. IfSome o (MayKeep (job_at plan n))) (sym (kept_is n l)) (fields_at n (found plan stay n) l refl);
    }

pub kept_fits : (plan : PlanView) (stay : List PackageView) → IsPlan plan → IsOrderly plan → IsClosed stay → AreFit plan stay → FitsKept plan (kept_among plan stay)
kept_fits plan stay is_plan orderly closed fit = fits plan stay is_plan orderly closed fit

-- where nothing stays, nothing is kept
none_at : (plan : PlanView) (n : ℕ) → n < count plan → kept_at (kept_among plan []) n ≡ None
unfolding found
none_at plan n l = kept_is plan [] n l

none_kept : (plan : PlanView) (n : ℕ) → n < count plan → is_kept (kept_among plan []) n ≡ true → ⊥
none_kept plan n l k = let f : false ≡ true = sym (ap is_some (none_at plan n l)) ∙ k in cc

pub none_fits : (plan : PlanView) → FitsKept plan (kept_among plan [])
none_fits plan = record {
  places = length-map plan.jobs (λ (job : JobView). find (λ p. bytes_eq (node_of_job job) (node_of_package p)) []);
  allowed = λ n l k. absurd (none_kept plan n l k);
  closed = λ n l k. absurd (none_kept plan n l k);
  fields = λ n l. subst (λ o. IfSome o (MayKeep (job_at plan n))) (sym (none_at plan n l)) tt;
}
