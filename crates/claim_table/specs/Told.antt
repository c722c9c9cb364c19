-- What a table is about, what rooms tell, and which outcomes are right.
use Rattle.std.specs.Prelude.{ℕ, Bool}
use Rattle.bulk_model.specs.declared.outcome.Outcome.{Outcome}
use Rattle.bulk_model.specs.Bake.{Runs}
use Rattle.bulk_model.specs.Baked.{IsOutcomeAt}
use Rattle.claim_table.specs.declared.view.Task.{Task}
use Rattle.claim_table.specs.declared.view.Key.{Key}

-- what the type of the rooms' ways tells
pub record Lore : Type 0 where
  pub tells : Bool
  pub runs : Runs

abbrev pub lore : Bool → Runs → Lore
lore tells runs = record { tells = tells; runs = runs }

abbrev pub task_of : Key → Task
task_of key = record { plan = key.plan.value; kept = key.kept.value }

-- an outcome that a node may have: a built package has its job's fields; where rooms tell it is
-- what one builder gives
abbrev pub IsRight : Lore → Task → ℕ → Outcome → Type 0
IsRight l t n outcome = IsOutcomeAt l.tells l.runs t.plan t.kept n outcome
