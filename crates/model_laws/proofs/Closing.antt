-- What rounds leave of members is closed, and has each closed set of them.
use Rattle.std.proofs.Common.{◌≡◌, ℕ, zero, suc, ◌≤◌, true, List, length, ap, sym, subst, ◌∙◌, arith, inl, inr}
use Rattle.std.specs.Prelude.{◌&&◌, filter, bytes_eq, Contains}
use Rattle.std.specs.List.{list_any}
use Rattle.std.proofs.lemmas.Bool.{and_parts, cases_lt}
use Rattle.std.proofs.lemmas.Slice.Eq.{bytes_eq-Decides}
use Rattle.bulk_base.proofs.Members.{any_member, member_any, all_passes, passes_all, filter_into, filter_out_of, filter_whole}
use Rattle.bulk_model.specs.declared.depend.Recorded.{Recorded}
use Rattle.bulk_model.specs.Among.{AreInOrder, is_recorded_as}
use Rattle.bulk_model.specs.Digests.{is_same}
use Rattle.bulk_model.specs.Sound.{has_all, IsClosed, IsWithin, closed_after, closed_part}
use Rattle.bulk_model.specs.Spelling.{mark}
use Rattle.bulk_model.specs.Views.{PackageView, node_of_package}
use Rattle.model_laws.specs.Soundness.{IsGreatestClosed}
use Rattle.model_laws.proofs.Ordered.{filter_order}

pub recorded_name : (depend : Recorded) (q : PackageView) → is_recorded_as depend q ≡ true
    → depend.name ≡ q.name
recorded_name depend q h =
    (bytes_eq-Decides depend.name q.name).0
    (and_parts (bytes_eq depend.name q.name) (is_same depend.digest (mark q))
    (and_parts (bytes_eq depend.node (node_of_package q)) (bytes_eq depend.name q.name && is_same depend.digest (mark q)) h).1).0

-- the member that a recorded dependency means
pub record Meant (members : List PackageView) (depend : Recorded) : Type 0 where
  pub one : PackageView
  pub is : Contains members one
  pub meant : is_recorded_as depend one ≡ true

pub meant_in : (members : List PackageView) (p : PackageView) (depend : Recorded)
    → has_all members p ≡ true → Contains p.depends depend → Meant members depend
meant_in members p depend h c =
    let m = any_member (is_recorded_as depend) members (all_passes (λ d. list_any (is_recorded_as d) members) p.depends depend h c) in
    record { one = m.one; is = m.is; meant = m.does }

-- what has its dependencies among fewer has them among more
pub has_all_more : (members more : List PackageView) → IsWithin members more → (p : PackageView)
    → has_all members p ≡ true → has_all more p ≡ true
has_all_more members more within p h =
    passes_all (λ d. list_any (is_recorded_as d) more) p.depends
    (λ d c. let m : Meant members d = meant_in members p d h c in member_any (is_recorded_as d) more m.one (within m.one m.is) m.meant)

abbrev round : List PackageView → List PackageView
round members = filter (has_all members) members

pub within_after : (rounds : ℕ) (members : List PackageView)
    → IsWithin (closed_after rounds members) members
within_after zero members p h = h
within_after (suc rounds) members p h = (filter_out_of (has_all members) members p (within_after rounds (round members) p h)).0

stays : (rounds : ℕ) (members : List PackageView) → round members ≡ members
    → closed_after rounds members ≡ members
stays zero members e = λ i. members
stays (suc rounds) members e = ap (closed_after rounds) e ∙ stays rounds members e

-- of what stays a further round takes nothing
settled : (rounds : ℕ) (members : List PackageView) → length members ≤ rounds
    → round (closed_after rounds members) ≡ closed_after rounds members
settled zero members l = filter_whole (has_all members) members (omega arith)
settled (suc rounds) members l =
    elim (cases_lt (length (round members)) (length members)) [
      | inl less ↦ settled rounds (round members) (omega arith)
      | inr all ↦
          (let e : round members ≡ members = filter_whole (has_all members) members all in
          let same : closed_after rounds (round members) ≡ members = stays (suc rounds) members e in
          subst (λ ms. round ms ≡ ms) (sym same) e)
    ]

pub part_within : (members : List PackageView) → IsWithin (closed_part members) members
part_within members p h = within_after (length members) members p h

pub part_closed : (members : List PackageView) → IsClosed (closed_part members)
part_closed members p h =
    let e = settled (length members) members (omega arith) in
    (filter_out_of (has_all (closed_part members)) (closed_part members) p (subst (λ ms. Contains ms p) (sym e) h)).1

greatest_after : (rounds : ℕ) (members some : List PackageView) → IsWithin some members
    → IsClosed some → IsWithin some (closed_after rounds members)
greatest_after zero members some within closed p c = within p c
greatest_after (suc rounds) members some within closed p c =
    greatest_after rounds (round members) some (λ q d. filter_into (has_all members) members q (within q d) (has_all_more some members within q (closed q d))) closed p c

pub part_is_greatest : (members : List PackageView) → IsGreatestClosed members (closed_part members)
part_is_greatest members = record {
  within = part_within members;
  closed = part_closed members;
  greatest = λ some within closed. greatest_after (length members) members some within closed;
}

pub after_order : (rounds : ℕ) (members : List PackageView) → AreInOrder members
    → AreInOrder (closed_after rounds members)
after_order zero members h = h
after_order (suc rounds) members h = after_order rounds (round members) (filter_order (has_all members) members h)

pub part_order : (members : List PackageView) → AreInOrder members
    → AreInOrder (closed_part members)
part_order members h = after_order (length members) members h
