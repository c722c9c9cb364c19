-- Laws on closed and sound packages.
use Rattle.std.specs.Prelude.{◌↔◌, List, Contains}
use Rattle.bulk_model.specs.Among.{AreInOrder, AreInstalls, installs_among}
use Rattle.bulk_model.specs.Bake.{Runs}
use Rattle.bulk_model.specs.Sound.{Recipe, IsClosed, IsWithin, HasNames, IsSound, by_node, closed_part, IsSoundByRounds}
use Rattle.bulk_model.specs.Views.{PackageView}

-- a part of members is the greatest of those that are closed
pub record IsGreatestClosed (members part : List PackageView) : Type 0 where
  pub within : IsWithin part members
  pub closed : IsClosed part
  pub greatest : (some : List PackageView) → IsWithin some members → IsClosed some
      → IsWithin some part

-- what rounds leave is the greatest closed part
abbrev pub ClosedPartIsGreatest : Type 0
ClosedPartIsGreatest = (members : List PackageView) → IsGreatestClosed members (closed_part members)

-- fewer members than sound ones are sound
abbrev pub FewerStaySound : Type 0
FewerStaySound =
    (runs : Runs) (table : List Recipe) (members some : List PackageView)
    → IsSound runs table members → IsWithin some members → IsSound runs table some

-- members are put in order, by node, then name, each once
abbrev pub MembersAreInOrder : Type 0
MembersAreInOrder = (members : List PackageView) → AreInOrder (by_node members)

-- and where a name tells the package, they stay the same members
abbrev pub MembersStay : Type 0
MembersStay =
    (members : List PackageView) → HasNames members
    → (p : PackageView) → Contains (by_node members) p ↔ Contains members p

-- rounds over members in order give just what is installed for a package, in order
abbrev pub RoundsInstallAll : Type 0
RoundsInstallAll =
    (members : List PackageView) (p : PackageView) → AreInOrder members
    → AreInstalls members p (installs_among members p)

-- members of distinct names are sound just where they are sound by rounds
abbrev pub SoundIsByRounds : Type 0
SoundIsByRounds =
    (runs : Runs) (table : List Recipe) (members : List PackageView)
    → HasNames members → IsSound runs table members ↔ IsSoundByRounds runs table members
