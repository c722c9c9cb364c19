-- What passes over a store's packages leave, by any test of own reasons: a pass takes away each package that has an own reason, or
-- that records a dependency whose node, name and mark no package that is left has.
use Rattle.std.specs.Prelude.{◌≡◌, ℕ, zero, suc, Bool, false, not, ◌&&◌, List, length, filter, Contains}
use Rattle.bulk_model.specs.Sound.{has_all, IsClosed, IsWithin}
use Rattle.bulk_model.specs.Views.{PackageView}

abbrev pub pass : (PackageView → Bool) → List PackageView → List PackageView
pass own members = filter (λ p. not (own p) && has_all members p) members

abbrev pub passes : (PackageView → Bool) → ℕ → List PackageView → List PackageView
passes own zero members = members
passes own (suc rounds) members = passes own rounds (pass own members)

-- as many passes as there are packages
abbrev pub fresh : (PackageView → Bool) → List PackageView → List PackageView
fresh own members = passes own (length members) members

-- none of some has an own reason
abbrev pub IsFree : (PackageView → Bool) → List PackageView → Type 0
IsFree own some = (p : PackageView) → Contains some p → own p ≡ false

-- the greatest closed set of members without own reasons
pub record IsGreatest (own : PackageView → Bool) (members left : List PackageView) : Type 0 where
  pub within : IsWithin left members
  pub closed : IsClosed left
  pub free : IsFree own left
  pub greatest : (some : List PackageView) → IsWithin some members → IsClosed some
      → IsFree own some → IsWithin some left

-- ---- the laws

-- what is left has all that it records
abbrev pub FreshIsClosed : Type 0
FreshIsClosed = (own : PackageView → Bool) (members : List PackageView) → IsClosed (fresh own members)

-- what is left is the greatest closed set of members without own reasons
abbrev pub FreshIsGreatest : Type 0
FreshIsGreatest =
    (own : PackageView → Bool) (members : List PackageView) → IsGreatest own members (fresh own members)

-- a test that keeps the greatest such set keeps just what is left
abbrev pub GreatestIsFresh : Type 0
GreatestIsFresh =
    (own : PackageView → Bool) (members : List PackageView) (keeps : PackageView → Bool)
    → IsGreatest own members (filter keeps members) → filter keeps members ≡ fresh own members
