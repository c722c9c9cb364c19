-- A table, a seat and a ticket as contracts see them, and what the calls ask of them and answer.
use Rattle.std.specs.Prelude.{◌≡◌, ◌≢◌, ℕ, ◌≤◌, Bool, true, false, not, ◌&&◌, ◌||◌, List, Option, Some, is_some, Result, Ok, Err}
use Rattle.std.specs.List.{list_all, list_any}
use Rattle.atomic_table.specs.Seated.{TableId}
use Rattle.bulk_model.specs.declared.outcome.Outcome.{Outcome}
use Rattle.bulk_model.specs.declared.outcome.Outcome.TheVariants.{Built as MadePackage}
use Rattle.bulk_model.specs.declared.plan.Kept.{Kept as KeptPackages}
use Rattle.bulk_model.specs.Fit.{FitsPartial, outcome_at, is_there}
use Rattle.bulk_model.specs.Installs.{has}
use Rattle.bulk_model.specs.PlanView.{depends}
use Rattle.bulk_model.specs.Results.{is_kept}
use Rattle.bulk_model.specs.Views.{PackageView}
use Rattle.claim_table.specs.declared.fetch.FetchError.{FetchError}
use Rattle.claim_table.specs.declared.fetch.FetchError.TheVariants.{Busy, NotThere, NoMemory}
use Rattle.claim_table.specs.declared.view.Task.{Task}
use Rattle.claim_table.specs.declared.view.View.{View}
use Rattle.claim_table.specs.declared.word.Word.{Word}
use Rattle.claim_table.specs.declared.word.Word.TheVariants.{Built, Reading}
use Rattle.claim_table.specs.Changes.{after_look, after_begin, after_close}
use Rattle.claim_table.specs.Told.{Lore, IsRight}
use Rattle.claim_table.specs.Views.{times, IsFound}

-- a table: which it is, and what it is about
pub record Site : Type 0 where
  pub id : TableId
  pub task : Task

-- a seat: which table it is of, and what it knows
pub record Sits : Type 0 where
  pub id : TableId
  pub view : View

-- a ticket: the claimed node, and what its table is about
pub record Stub : Type 0 where
  pub node : ℕ
  pub task : Task

-- the seat is one of the table
pub record IsOf (table : Site) (seat : Sits) : Type 0 where
  pub id : seat.id ≡ table.id
  pub task : seat.view.task ≡ Some table.task

-- the ticket is the seat's
pub record IsTicketOf (table : Site) (seat : Sits) (ticket : Stub) : Type 0 where
  pub held : seat.view.holds ≡ Some ticket.node
  pub about : ticket.task ≡ table.task

-- a node is kept, or known as built
abbrev pub is_known : KeptPackages → View → ℕ → Bool
is_known kept v d = is_kept kept d || has v.built d

-- the seat knows of each dependency of a node that its package is there
abbrev pub knows_all : Task → View → ℕ → Bool
knows_all t v n = list_all (is_known t.kept v) (depends t.plan n)

-- the seat knows some dependency of a node as bad
abbrev pub knows_bad : Task → View → ℕ → Bool
knows_bad t v n = list_any (has v.bad) (depends t.plan n)

-- what was known as built still is
abbrev pub KnowsMore : View → View → Type 0
KnowsMore old new = (n : ℕ) → has old.built n ≡ true → has new.built n ≡ true

-- a node that is read is busy; another that is not built has no package there
abbrev pub refusal : Word → FetchError
refusal Reading = Busy
refusal word = NotThere word

-- what a fetch answers, and what the seat knows after it
abbrev pub AfterFetch : Lore → Task → ℕ → View → View → Result PackageView FetchError → Type 0
AfterFetch l t n old new (Ok built) =
    IsRight l t n (MadePackage built) × (new ≡ after_close n (after_begin n old))
AfterFetch l t n old new (Err Busy) = new ≡ after_look n Reading old
AfterFetch l t n old new (Err (NotThere word)) =
    (word ≢ Built) × (word ≢ Reading) × IsFound t old n word × (new ≡ after_look n word old)
AfterFetch l t n old new (Err NoMemory) = new ≡ after_close n (after_begin n old)

-- the outcomes of a closed table, and what its last seat knows of them
pub record IsClosed (l : Lore) (t : Task) (v : View) (outcomes : List (Option Outcome))
    : Type 0 where
  pub fits : FitsPartial t.plan t.kept outcomes
  pub right : (n : ℕ) (outcome : Outcome) → outcome_at outcomes n ≡ Some outcome
      → IsRight l t n outcome
  -- just the nodes that were claimed and not given up have one, and none was claimed twice
  pub ended : (n : ℕ) → is_some (outcome_at outcomes n) ≡ (has v.claims n && not (has v.given n))
  pub once : (n : ℕ) → times v.claims n ≤ 1
  -- what is known as built has its package, and what is known as bad has none
  pub built : (n : ℕ) → has v.built n ≡ true → is_there t.kept outcomes n ≡ true
  pub bad : (n : ℕ) → has v.bad n ≡ true → is_there t.kept outcomes n ≡ false
