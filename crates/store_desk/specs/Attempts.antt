-- What one turn does with the store, and what a seat knows of its answer.
use Rattle.std.specs.Prelude.{◌≡◌, ◌⊎◌, ℕ, ◌+◌, ◌≤◌, nat_lt, ◌||◌, Bool, true, List, [], ◌∷◌, ◌++◌, slice_set, Some, None, Result, Ok, Err}
use Rattle.outside.specs.Faults.{Rose}
use Rattle.outside.specs.declared.outer.Outer.{Outer}
use Rattle.outside.specs.declared.outer.Outer.TheVariants.{Fault as OuterFault, NoMemory as OuterNoMemory}
use Rattle.bulk_model.specs.declared.plan.Kept.{Kept as KeptPackages}
use Rattle.bulk_model.specs.Flags.{flag, Within}
use Rattle.bulk_model.specs.PlanView.{PlanView}
use Rattle.store_desk.specs.declared.attempt.Keep.{Keep}
use Rattle.store_desk.specs.declared.attempt.Keep.TheVariants.{Saved, Later, Fault, NoMemory}
use Rattle.store_desk.specs.declared.view.Held.{Held}
use Rattle.store_desk.specs.declared.view.Origin.{Origin}
use Rattle.store_desk.specs.declared.view.View.{View}
use Rattle.store_desk.specs.Told.{Lore, least_open}
use Rattle.store_desk.specs.Written.{IsSound}

abbrev pub answer_of : {X : Type 0} → Result X Outer → Keep
answer_of (Ok _) = Saved
answer_of (Err OuterFault) = Fault
answer_of (Err OuterNoMemory) = NoMemory

-- what an answer says, of the count before and after the turn and the saved nodes after it
abbrev pub Answers : PlanView → KeptPackages → ℕ → ℕ → ℕ → List Bool → Keep → Type 0
Answers plan kept n before now saved Saved =
    (flag saved n ≡ true) × (least_open plan kept saved n ≡ None) × (now ≡ before)
Answers plan kept n before now saved (Later d) =
    (least_open plan kept saved n ≡ Some d) × (now ≡ before)
Answers plan kept n before now saved Fault =
    Rose before now × (least_open plan kept saved n ≡ None)
Answers plan kept n before now saved NoMemory =
    (least_open plan kept saved n ≡ None) × (now ≡ before)

-- what one turn does
pub record Attempted {X : Type 0} (l : Lore X) (o : Origin) (n : ℕ) (before now : Held X)
    (answer : Keep) : Type 0 where
  pub sound : IsSound l o now
  pub later : l.faults before.store ≤ l.faults now.store
  pub saved : Within before.saved now.saved
  pub tried : (now.tried ≡ before.tried) ⊎ (now.tried ≡ slice_set before.tried n true)
  pub answers : Answers o.plan o.kept n (l.faults before.store) (l.faults now.store) now.saved
      answer

-- what a seat knows after one turn
pub record AfterKeep (plan : PlanView) (kept : KeptPackages) (n : ℕ) (old new : View)
    (answer : Keep) : Type 0 where
  pub origin : new.origin ≡ old.origin
  pub shares : new.shares ≡ old.shares
  pub turns : new.turns ≡ old.turns + 1
  -- it knows no less, and whether the count rose in this turn
  pub later : old.seen ≤ new.since
  pub since : new.since ≤ new.seen
  pub more : Within old.known new.known
  pub rose : new.rose ≡ (old.rose || nat_lt new.since new.seen)
  -- it tried this node, or none
  pub mine : (new.mine ≡ old.mine) ⊎ (new.mine ≡ old.mine ++ n ∷ [])
  pub answers : Answers plan kept n new.since new.seen new.known answer
