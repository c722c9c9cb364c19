-- What the cases of a claim table know of its seats.
use Rattle.std.specs.Prelude.{◌≡◌, ℕ, Option, Some, None}
use Rattle.bulk_model.specs.declared.plan.Kept.{Kept as KeptPackages}
use Rattle.bulk_model.specs.PlanView.{PlanView}
use Rattle.claim_table.specs.Seats.{Site, Sits, Stub, IsOf, IsTicketOf}

-- the table is about the plan and the kept packages
pub record IsAbout (table : Site) (p : PlanView) (k : KeptPackages) : Type 0 where
  pub plan : table.task.plan ≡ p
  pub kept : table.task.kept ≡ k

-- a seat of the table that holds nothing and has so many shares
pub record IsIdle (table : Site) (count : ℕ) (seat : Sits) : Type 0 where
  pub of : IsOf table seat
  pub holds : seat.view.holds ≡ None
  pub shares : seat.view.shares ≡ count

-- what a seat holds is the ticket's node, or nothing where there is none
abbrev pub Holds : Site → Sits → Option Stub → Type 0
Holds table seat None = seat.view.holds ≡ None
Holds table seat (Some ticket) = IsTicketOf table seat ticket
