-- What the cases of a desk know of it and of its seats.
use Rattle.std.specs.Prelude.{◌≡◌, ℕ}
use Rattle.bulk_model.specs.declared.plan.Kept.{Kept as KeptPackages}
use Rattle.bulk_model.specs.PlanView.{PlanView}
use Rattle.store_desk.specs.Seats.{Site, Sits, IsOf}

-- the desk is about the plan and the kept packages
pub record IsAbout (desk : Site) (p : PlanView) (k : KeptPackages) : Type 0 where
  pub plan : desk.origin.plan ≡ p
  pub kept : desk.origin.kept ≡ k

-- a seat of the desk that has so many shares
pub record HasShares (desk : Site) (count : ℕ) (seat : Sits) : Type 0 where
  pub of : IsOf desk seat
  pub shares : seat.view.shares ≡ count
