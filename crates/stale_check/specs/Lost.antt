-- Marks at the packages that go.
use Rattle.std.specs.Prelude.{◌≡◌, ℕ, Bool, true, false, not, ◌<◌, List, length, Contains}
use Rattle.std.specs.declared.option.Option.{Option}
use Rattle.bulk_model.specs.Flags.{flag}
use Rattle.bulk_model.specs.Views.{PackageView}
use Rattle.bulk_model.specs.declared.reason.Reason.{Reason}
use Rattle.stale_check.specs.Placing.{member_at}
use Rattle.stale_check.specs.Stale.{left, is_left}

-- a mark for each package; just those that are left have none
pub record AreLost (own : PackageView → Option Reason) (members : List PackageView) (lost : List Bool) : Type 0 where
  pub size : length lost ≡ length members
  pub marked : (n : ℕ) → n < length members
      → flag lost n ≡ not (is_left own members (member_at members n))
  pub kept : (n : ℕ) → n < length members → flag lost n ≡ false
      → Contains (left own members) (member_at members n)
  pub gone : (n : ℕ) → n < length members → flag lost n ≡ true
      → Contains (left own members) (member_at members n) → ⊥
