-- What a view becomes by each kind of step.
use Rattle.std.specs.Prelude.{ℕ, ◌+◌, ◌-◌, nat_lt, max, true, false, ◌||◌, [], ◌++◌}
use Rattle.store_desk.specs.declared.view.Held.{Held}
use Rattle.store_desk.specs.declared.view.View.{View}
use Rattle.store_desk.specs.Marks.{either_of, newly}

-- the turn was taken with this store, whose count and marks are known then
abbrev pub after_take : {X : Type 0} → (X → ℕ) → View → Held X → View
after_take faults v h = record v {
  turn = true;
  since = faults h.store;
  seen = faults h.store;
  known = h.saved;
  heard = h.tried;
}

-- the turn was taken with an empty slot
abbrev pub after_first_take : View → View
after_first_take v = record v { turn = true }

-- the turn was given back with this store
abbrev pub after_give : {X : Type 0} → (X → ℕ) → View → Held X → View
after_give faults v h = record v {
  turn = false;
  mark = true;
  seen = faults h.store;
  known = h.saved;
  mine = v.mine ++ newly 0 v.heard h.tried;
  turns = v.turns + 1;
  rose = v.rose || nat_lt v.seen (faults h.store);
}

-- a split seat keeps all but one share
abbrev pub first_part : View → View
first_part v = record v { shares = v.shares - 1 }

-- the new seat has one share, knows what the first knows, and has tried nothing
abbrev pub second_part : View → View
second_part v = record v { shares = 1; mine = []; rose = false }

-- shares and knowledge of two seats are put together
abbrev pub together : View → View → View
together v w = record v {
  shares = v.shares + w.shares;
  seen = max v.seen w.seen;
  known = either_of v.known w.known;
  mine = v.mine ++ w.mine;
  rose = v.rose || w.rose;
}
