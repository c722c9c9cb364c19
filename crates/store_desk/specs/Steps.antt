-- The five kinds of steps: what each leaves of a seat's view, and of the slot that is out with the
-- seat.
use Rattle.std.specs.Prelude.{◌≡◌, ◌≢◌, ℕ, ◌≤◌, [], ◌∷◌, Option, Some, None}
use Rattle.atomic_table.specs.Table.{Me}
use Rattle.bulk_model.specs.Flags.{Within}
use Rattle.store_desk.specs.declared.view.Held.{Held}
use Rattle.store_desk.specs.declared.view.Origin.{Origin}
use Rattle.store_desk.specs.declared.view.View.{View}
use Rattle.store_desk.specs.Told.{Lore}
use Rattle.store_desk.specs.Written.{IsSound}
use Rattle.store_desk.specs.Changes.{after_take, after_first_take, after_give, first_part, second_part, together}

-- the turn was taken with this store, or with an empty slot in the first turn
pub record TakeTurn {X : Type 0} (l : Lore X) (before after : Me (Option (Held X)) View)
    : Type 0 where
  pub held : Held X
  pub sound : (o : Origin) → before.0.origin ≡ Some o → IsSound l o held
  pub later : before.0.seen ≤ l.faults held.store
  pub known : Within before.0.known held.saved
  pub is : after ≡ (after_take l.faults before.0 held, (0, Some held) ∷ before.1)

pub record TakeEmpty {X : Type 0} (found : ℕ) (before after : Me (Option (Held X)) View)
    : Type 0 where
  pub word : found ≡ 2
  pub is : after ≡ (after_first_take before.0, (0, None) ∷ before.1)

-- the turn was given back with the slot
pub record GiveTurn {X : Type 0} (l : Lore X) (before after : Me (Option (Held X)) View)
    : Type 0 where
  pub held : Held X
  pub slot : before.1 ≡ (0, Some held) ∷ []
  pub is : after ≡ (after_give l.faults before.0 held, [])

-- the turn was found taken, and nothing changed
pub record FindTaken {X : Type 0} (before after : Me (Option (Held X)) View) : Type 0 where
  pub is : after ≡ before

-- one seat becomes two
pub record SplitOf (v a b : View) : Type 0 where
  pub first : a ≡ first_part v
  pub second : b ≡ second_part v

-- two seats become one
pub record JoinOf (v w u : View) : Type 0 where
  pub both : u ≡ together v w

-- ---- what the steps of the calls tell, of the number found

abbrev pub takes_then : {X : Type 0} → Lore X → Me (Option (Held X)) View → ℕ
    → Me (Option (Held X)) View → Type 0
takes_then l before found after =
    (found ≢ 0 → FindTaken before after) × (found ≡ 0 → TakeTurn l before after)

abbrev pub first_takes_then : {X : Type 0} → Me (Option (Held X)) View → ℕ
    → Me (Option (Held X)) View → Type 0
first_takes_then before found after = TakeEmpty found before after

abbrev pub gives_then : {X : Type 0} → Lore X → Me (Option (Held X)) View → ℕ
    → Me (Option (Held X)) View → Type 0
gives_then l before found after = GiveTurn l before after
