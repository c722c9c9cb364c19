-- The rule of a desk: the turn, the place of the store, and what each seat knows, between any two
-- steps (docs/STORE_DESK.md).
use Rattle.std.specs.Prelude.{◌≡◌, ◌⊎◌, ℕ, ◌≤◌, ◌==◌, Bool, true, false, List, [], ◌∷◌, slice_index, Option, Some, None, if◌then◌else◌}
use mathlib.Core.Option.{none, some}
use mathlib.Core.Option as maybe
use Rattle.atomic_table.specs.Table.{State}
use Rattle.bulk_base.specs.Totals.{total, At}
use Rattle.bulk_model.specs.Flags.{flag, Within}
use Rattle.store_desk.specs.declared.view.Held.{Held}
use Rattle.store_desk.specs.declared.view.Origin.{Origin}
use Rattle.store_desk.specs.declared.view.View.{View}
use Rattle.store_desk.specs.Marks.{one, times}
use Rattle.store_desk.specs.Told.{Lore}
use Rattle.store_desk.specs.Written.{IsSound}

-- the shares of all seats together
abbrev pub all_shares : ℕ
all_shares = 4294967296

-- the view of a seat that was joined away
abbrev pub nobody : View
nobody = record {
  origin = None;
  shares = 0;
  seen = 0;
  since = 0;
  known = [];
  heard = [];
  mine = [];
  turns = 0;
  rose = false;
  mark = true;
  turn = false;
}

-- the first view, before its first turn and in it
abbrev pub beginner : Origin → Bool → View
beginner o turn = record {
  origin = Some o;
  shares = all_shares;
  seen = o.first;
  since = o.first;
  known = [];
  heard = [];
  mine = [];
  turns = 0;
  rose = false;
  mark = false;
  turn = turn;
}

abbrev pub first_view : Origin → View
first_view o = beginner o false

-- a view has a share and is about this desk, or was joined away; its counts are in order
pub record Fits (o : Origin) (v : View) : Type 0 where
  pub about : 1 ≤ v.shares → v.origin ≡ Some o
  pub spent : v.shares ≡ 0 → v ≡ nobody
  pub first : 1 ≤ v.shares → o.first ≤ v.since
  pub since : v.since ≤ v.seen

-- a count and the saved nodes are no less than what any view knows of them; while no view saw the
-- count rise it is the first one; each node that was tried stands in some view's list
pub record Above (o : Origin) (count : ℕ) (saved called : List Bool) (views : List View)
    : Type 0 where
  pub seen : (i : ℕ) (v : View) → At views i v → v.seen ≤ count
  pub known : (i : ℕ) (v : View) → At views i v → Within v.known saved
  pub still : total (λ v. one v.rose) views ≡ 0 → count ≡ o.first
  pub tried : (n : ℕ) → flag called n ≡ true → 1 ≤ total (λ v. times n v.mine) views

-- the word, and what the slot holds: the store where the turn is free, nothing where it is taken
pub data Place (X : Type 0) (words : List ℕ) (homes : List (maybe.Option (Option (Held X)))) : Type 0 where
  free : (h : Held X) → words ≡ 0 ∷ [] → homes ≡ some (Some h) ∷ [] → Place X words homes
  taken : words ≡ 1 ∷ [] → homes ≡ none ∷ [] → Place X words homes
  empty : words ≡ 2 ∷ [] → homes ≡ some None ∷ [] → Place X words homes

abbrev pub AllMarked : List View → Type 0
AllMarked views = (i : ℕ) (v : View) → At views i v → v.mark ≡ true

-- there is only the first view, and the word tells an empty slot unless that view has the turn
pub record IsFresh (o : Origin) (words : List ℕ) (views : List View) : Type 0 where
  pub turn : Bool
  pub only : views ≡ beginner o turn ∷ []
  pub word : words ≡ (if turn then 1 else 2) ∷ []

-- every view knows that the slot was filled, and the word does not tell an empty one
pub record IsFilled (words : List ℕ) (views : List View) : Type 0 where
  pub marked : AllMarked views
  pub word : (words ≡ 2 ∷ []) → ⊥

pub record Ruled {X : Type 0} (l : Lore X) (o : Origin) (s : State (Option (Held X)) View)
    : Type 0 where
  -- the shares of all views add up to all
  pub shares : total (λ v. v.shares) s.views ≡ all_shares
  -- the turn is taken exactly where a view has it, and at most one view does
  pub turns : total (λ v. one v.turn) s.views ≡ one (slice_index s.words 0 == 1)
  -- the store is out only then
  pub place : Place X s.words s.homes
  -- each view is about this desk or was joined away
  pub fits : (i : ℕ) (v : View) → At s.views i v → Fits o v
  -- of a store at home its journal and its marks hold, and it is above what any view knows
  pub home : (h : Held X) → s.homes ≡ some (Some h) ∷ []
      → IsSound l o h × Above o (l.faults h.store) h.saved h.tried s.views
  -- a view that has the turn is above what any other knows
  pub away : (i : ℕ) (v : View) → At s.views i v → v.turn ≡ true
      → Above o v.seen v.known v.heard s.views
  -- the store was placed, or there is only the first view
  pub marks : IsFilled s.words s.views ⊎ IsFresh o s.words s.views
