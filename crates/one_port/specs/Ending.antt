-- What an answer says of the objects that were handed in.
use Rattle.std.specs.Prelude.{◌≡◌, ℕ, ◌≤◌, List, [], ◌∷◌, ◌++◌, take, bytes_eq, Option, Some, None}
use Rattle.std.specs.List.{IsDistinct}
use Rattle.outside.specs.Faults.{Rose}
use Rattle.bulk_model.specs.Views.{JobView}
use Rattle.one_port.specs.PortsWanted.{PortsWanted, names_of}
use Rattle.one_port.specs.declared.answer.Answer.{Answer}
use Rattle.one_port.specs.Kind.{Kind, kind_of, printed, bad_words, bad_tree, not_served, tree_failed, store_failed, room_failed, sink_failed, no_memory}

-- some first of a list of names were begun, which names each package once
pub record BeganOnce (before now : List (List ℕ)) : Type 0 where
  pub names : List (List ℕ)
  pub once : IsDistinct bytes_eq names
  pub count : ℕ
  pub begun : now ≡ before ++ take count names

-- the names of some first jobs of a list were begun, in their order
abbrev pub BeganFirst : List JobView → List (List ℕ) → List (List ℕ) → Type 0
BeganFirst jobs before now = (count : ℕ) × (now ≡ before ++ names_of (take count jobs))

-- the names of some first of the wanted ports were begun
abbrev pub BeganAtMost : Option PortsWanted → List (List ℕ) → List (List ℕ) → Type 0
BeganAtMost None before now = now ≡ before
BeganAtMost (Some ports) before now = BeganFirst ports.jobs before now

-- a fault is answered only where the count of that very object rose, and Done only where no count moved; the counts
-- of the tree, the store, the room and the sink stand before and after, in this order
abbrev pub blamed_by : Kind → ℕ → ℕ → ℕ → ℕ → ℕ → ℕ → ℕ → ℕ → Type 0
blamed_by printed tb tn sb sn rb rn kb kn = (tn ≡ tb) × (sn ≡ sb) × (rn ≡ rb) × (kn ≡ kb)
blamed_by bad_words tb tn sb sn rb rn kb kn = Unit {0}
blamed_by bad_tree tb tn sb sn rb rn kb kn = Unit {0}
blamed_by not_served tb tn sb sn rb rn kb kn = Unit {0}
blamed_by tree_failed tb tn sb sn rb rn kb kn = Rose tb tn
blamed_by store_failed tb tn sb sn rb rn kb kn = Rose sb sn
blamed_by (room_failed builder) tb tn sb sn rb rn kb kn = (builder ≡ 0) × Rose rb rn
blamed_by sink_failed tb tn sb sn rb rn kb kn = Rose kb kn
blamed_by no_memory tb tn sb sn rb rn kb kn = Unit {0}

abbrev pub IsBlamed : Answer → ℕ → ℕ → ℕ → ℕ → ℕ → ℕ → ℕ → ℕ → Type 0
IsBlamed answer tb tn sb sn rb rn kb kn = blamed_by (kind_of answer) tb tn sb sn rb rn kb kn

-- no count of the four rose
pub record HaveNotRisen (tb tn sb sn rb rn kb kn : ℕ) : Type 0 where
  pub tree : Rose tb tn → ⊥
  pub store : Rose sb sn → ⊥
  pub room : Rose rb rn → ⊥
  pub sink : Rose kb kn → ⊥

-- the exit status that an answer has: 0 or 1 for Done
abbrev pub has_status : Kind → ℕ → Type 0
has_status printed status = status ≤ 1
has_status bad_words status = status ≡ 2
has_status bad_tree status = status ≡ 2
has_status not_served status = status ≡ 2
has_status tree_failed status = status ≡ 3
has_status store_failed status = status ≡ 3
has_status (room_failed builder) status = status ≡ 3
has_status sink_failed status = status ≡ 3
has_status no_memory status = status ≡ 4

abbrev pub IsStatusOf : Answer → ℕ → Type 0
IsStatusOf answer status = has_status (kind_of answer) status

-- what is said of the first of some rooms
abbrev pub faults_of_first : {R : Type 0} → (R → ℕ) → List R → ℕ
faults_of_first faults [] = 0
faults_of_first faults (room ∷ rooms) = faults room

abbrev pub begun_in_first : {R : Type 0} → (R → List (List ℕ)) → List R → List (List ℕ)
begun_in_first begun [] = []
begun_in_first begun (room ∷ rooms) = begun room
