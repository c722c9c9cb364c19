-- Which package a dependency means.
use Rattle.std.specs.Prelude.{◌≡◌, ℕ, ◌<◌, Bool, false, ◌&&◌, List, length, take, Option, Some, None, bytes_eq}
use Rattle.std.specs.List.{list_any}
use Rattle.std.specs.Cmp.Lexicographic.{slice_cmp}
use Rattle.std.specs.Ordering.{nat_cmp}
use Rattle.std.specs.FinMap.{FinMap, get}
use Rattle.bulk_model.specs.Views.{PackageView, node_of_package}
use Rattle.bulk_model.specs.declared.depend.Depend.{Depend}

-- by node and name
abbrev pub is_meant : Depend → PackageView → Bool
is_meant depend p = bytes_eq depend.node (node_of_package p) && bytes_eq depend.name p.name

abbrev pub is_named : List ℕ → PackageView → Bool
is_named name p = bytes_eq name p.name

-- no package before a name's place has the name; where a name has no place, none of the first few
abbrev pub IsPlace : ℕ → List PackageView → List ℕ → Option ℕ → Type 0
IsPlace seen packages name (Some at) =
    (at < length packages) × (list_any (is_named name) (take at packages) ≡ false)
IsPlace seen packages name None = list_any (is_named name) (take seen packages) ≡ false

-- a map gives names such places
abbrev pub ArePlaces : ℕ → List PackageView → FinMap (slice_cmp nat_cmp) ℕ → Type 0
ArePlaces seen packages places =
    (name : List ℕ) → IsPlace seen packages name (get places name)
