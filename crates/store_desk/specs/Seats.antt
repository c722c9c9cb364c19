-- A desk and a seat as contracts see them, and what is known at the begin and at the end.
use Rattle.std.specs.Prelude.{◌≡◌, ℕ, ◌≤◌, Bool, true, false, List, [], ◌∷◌, length, Some, IsTrue}
use Rattle.atomic_table.specs.Seated.{TableId}
use Rattle.bulk_model.specs.Flags.{flag, Within}
use Rattle.bulk_model.specs.Installs.{has}
use Rattle.store_desk.specs.declared.view.Origin.{Origin}
use Rattle.store_desk.specs.declared.view.View.{View}
use Rattle.store_desk.specs.Rule.{nobody, all_shares}
use Rattle.store_desk.specs.Told.{Lore, all_done}
use Rattle.store_desk.specs.Written.{IsWritten}

-- a desk: its table, and what it is about
pub record Site : Type 0 where
  pub id : TableId
  pub origin : Origin

-- a seat: its table, and what it knows
pub record Sits : Type 0 where
  pub id : TableId
  pub view : View

abbrev pub front : List View → View
front [] = nobody
front (v ∷ vs) = v

-- a seat between its calls
pub record IsRested (views : List View) : Type 0 where
  pub only : views ≡ front views ∷ []
  pub turn : (front views).turn ≡ false
  pub mark : (front views).mark ≡ true
  pub shares : 1 ≤ (front views).shares

-- the seat is one of the desk
pub record IsOf (desk : Site) (seat : Sits) : Type 0 where
  pub id : seat.id ≡ desk.id
  pub origin : seat.view.origin ≡ Some desk.origin

-- the seat of a desk that was just made
pub record IsFirst (o : Origin) (v : View) : Type 0 where
  pub origin : v.origin ≡ Some o
  pub shares : v.shares ≡ all_shares
  pub seen : v.seen ≡ o.first
  pub since : v.since ≡ o.first
  pub known : (n : ℕ) → flag v.known n ≡ false
  pub mine : v.mine ≡ []
  pub rose : v.rose ≡ false

-- the store of a closed desk, the saved nodes, and what the last seat knows of them
pub record IsClosed {X : Type 0} (l : Lore X) (o : Origin) (v : View) (store : X)
    (saved : List Bool) : Type 0 where
  -- the saved nodes are what the seat knows as saved and more, and each has its dependencies kept
  -- or saved
  pub places : length saved ≡ length o.plan.jobs
  pub known : Within v.known saved
  pub closed : (n : ℕ) → flag saved n ≡ true → all_done o.plan o.kept saved n ≡ true
  -- where the store tells, its journal grew by puts of nodes that the seat tried
  pub written : IsTrue l.tells → IsWritten l o saved (has v.mine) (l.journal store) (l.content store)
  -- the count is at least what the seat saw, and the first one where it saw no rise
  pub seen : v.seen ≤ l.faults store
  pub still : v.rose ≡ false → l.faults store ≡ o.first
