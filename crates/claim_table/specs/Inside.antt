-- What holds inside a table and its seats between calls, and the words that a table is made with.
use Rattle.std.specs.Prelude.{◌≡◌, ℕ, ◌+◌, ◌<◌, ◌≤◌, ◌^◌, true, false, List, [], ◌∷◌, Option, Some, None, length, slice_index, if◌then◌else◌}
use Rattle.std.specs.List.{list_all}
use Rattle.atomic_table.specs.Seated.{TableId}
use Rattle.atomic_table.specs.Table.{rest}
use Rattle.bulk_model.specs.declared.outcome.Outcome.{Outcome}
use Rattle.bulk_model.specs.declared.outcome.Outcome.TheVariants.{Built as MadePackage, Failed as FailedBuild}
use Rattle.bulk_model.specs.declared.plan.Kept.{Kept as KeptPackages}
use Rattle.bulk_model.specs.PlanView.{PlanView, depends, is_ignored}
use Rattle.bulk_model.specs.Results.{is_kept}
use Rattle.bulk_model.specs.Views.{PackageView}
use Rattle.claim_table.specs.declared.view.Task.{Task}
use Rattle.claim_table.specs.Steps.{Mine}
use Rattle.claim_table.specs.Told.{Lore, IsRight}

-- what a plan and the kept packages have to do with each other, also past the last node
pub record AreFitting (plan : PlanView) (kept : KeptPackages) : Type 0 where
  pub apart : (n : ℕ) → is_kept kept n ≡ true → is_ignored plan n ≡ false
  pub closed : (n : ℕ) → is_kept kept n ≡ true → list_all (is_kept kept) (depends plan n) ≡ true
  pub without : (n : ℕ) → is_ignored plan n ≡ true → depends plan n ≡ []

-- the table's size is the plan's, it is about this plan and these kept packages, and there is room
-- for the outcomes
pub record IsSetUp (id : TableId) (task : Task) (plan : PlanView) (kept : KeptPackages) (room : ℕ)
    : Type 0 where
  pub words : id.words ≡ length plan.jobs + 1
  pub slots : id.slots ≡ length plan.jobs
  pub few : length plan.jobs < 2 ^ 32
  pub plan_is : plan ≡ task.plan
  pub kept_is : kept ≡ task.kept
  pub fitting : AreFitting plan kept
  pub room_is : length plan.jobs ≤ room

-- the slots that are out with a seat that holds this
abbrev pub carried : Option ℕ → List (ℕ × Option Outcome)
carried None = []
carried (Some n) = (n, None) ∷ []

-- a seat between its calls
pub record IsRested (me : Mine) : Type 0 where
  pub shares : 1 ≤ me.0.shares
  pub reads : me.0.reads ≡ None
  pub slots : me.1 ≡ carried me.0.holds

-- a seat that has begun a reading of a node, and has its package
pub record IsOpen (l : Lore) (t : Task) (n : ℕ) (me : Mine) : Type 0 where
  pub built : PackageView
  pub right : IsRight l t n (MadePackage built)
  pub slots : me.1 ≡ (n, Some (MadePackage built)) ∷ rest me.1
  pub reads : me.0.reads ≡ Some n
  pub shares : 1 ≤ me.0.shares

-- the number of a node's first word
abbrev pub first_code : PlanView → KeptPackages → ℕ → ℕ
first_code plan kept n = if is_kept kept n then 6 else if is_ignored plan n then 7 else 0

-- the words of a table as it is made
pub record AreFirst (plan : PlanView) (kept : KeptPackages) (words : List ℕ) : Type 0 where
  pub size : length words ≡ length plan.jobs + 1
  pub spare : slice_index words 0 ≡ 0
  pub each : (n : ℕ) → n < length plan.jobs
      → slice_index words (n + 1) ≡ first_code plan kept n

-- the number of the word of an outcome
abbrev pub code_of : Outcome → ℕ
code_of (MadePackage p) = 2
code_of (FailedBuild phase code) = 3
