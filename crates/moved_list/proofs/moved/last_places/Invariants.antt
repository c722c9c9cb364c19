use Rattle.std.proofs.Common.{ℕ, List, take}
use Rattle.std.specs.FinMap as map
use Rattle.moved_list.specs.Moved.{IsPlaceOf}
use Rattle.moved_list.proofs.moved.last_places.Given as goal

abbrev pub invariant-loop-at : goal.invariant-loop-at
invariant-loop-at l = (name : List ℕ) → IsPlaceOf (take l.at l.all) name (map.get l.places name)
