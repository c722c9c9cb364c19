-- What is installed for a package among others, by what packages record of their dependencies.
use Rattle.std.specs.Prelude.{Bool, ◌&&◌, List, length, filter, bytes_eq, IsTrue, Contains}
use Rattle.std.specs.List.{list_any}
use Rattle.std.specs.Ordering.{nat_cmp, ordering_then}
use Rattle.std.specs.Cmp.Lexicographic.{slice_cmp}
use Rattle.std.specs.List.Sorted.{IsStrictlySortedBy}
use Rattle.std.specs.declared.cmp.Ordering.{Ordering}
use Rattle.bulk_model.specs.declared.depend.Recorded.{Recorded}
use Rattle.bulk_model.specs.Digests.{is_same}
use Rattle.bulk_model.specs.Grown.{grown}
use Rattle.bulk_model.specs.Installs.{is_needed_later}
use Rattle.bulk_model.specs.Spelling.{mark}
use Rattle.bulk_model.specs.Views.{PackageView, node_of_package}

-- a recorded dependency means a package: its node, its name, and the digest of its record
abbrev pub is_recorded_as : Recorded → PackageView → Bool
is_recorded_as depend p =
    bytes_eq depend.node (node_of_package p)
    && (bytes_eq depend.name p.name && is_same depend.digest (mark p))

-- what is installed for a member: what it records, and with each what that one records and needs later
pub data Installed (members : List PackageView) (p : PackageView) : PackageView → Type 0 where
  direct : {q : PackageView} (depend : Recorded) → Contains p.depends depend → Contains members q
      → IsTrue (is_recorded_as depend q) → Installed members p q
  later : {m q : PackageView} (depend : Recorded) → Installed members p m
      → Contains m.depends depend
      → IsTrue (is_needed_later depend.kind) → Contains members q → IsTrue (is_recorded_as depend q)
      → Installed members p q

-- packages by node, then name
abbrev pub package_cmp : PackageView → PackageView → Ordering
package_cmp a b =
    ordering_then (slice_cmp nat_cmp (node_of_package a) (node_of_package b))
    (slice_cmp nat_cmp a.name b.name)

abbrev pub AreInOrder : List PackageView → Type 0
AreInOrder packages = IsStrictlySortedBy package_cmp packages

-- in order, just what is installed for a member
pub record AreInstalls (members : List PackageView) (p : PackageView)
    (packages : List PackageView) : Type 0 where
  pub order : AreInOrder packages
  pub only : (q : PackageView) → Contains packages q → Installed members p q
  pub all : (q : PackageView) → Installed members p q → Contains packages q

-- the same by rounds, over members in order
abbrev pub is_depend : List Recorded → PackageView → Bool
is_depend depends q = list_any (λ depend. is_recorded_as depend q) depends

abbrev pub later_records : PackageView → List Recorded
later_records p = filter (λ depend. is_needed_later depend.kind) p.depends

abbrev pub installs_among : List PackageView → PackageView → List PackageView
installs_among members p =
    filter (grown (is_depend p.depends) (λ m. is_depend (later_records m)) members (length members))
    members
