-- The first refusal of a command (docs/DEFINITIONS.md, "The first refusal").
use Rattle.std.specs.Prelude.{ℕ, ◌-◌, Bool, ◌&&◌, nat_lt, List, [], ◌∷◌, length, drop, find, codes, Option, Some, None, Result, Ok, Err, bytes_eq, if◌then◌else◌}
use Rattle.std.specs.Option.{option_map, option_map_or, option_and_then, option_or}
use Rattle.std.specs.FinMap.{keys}
use Rattle.outside.specs.Contents.{Contents}
use Rattle.one_port.specs.PortsWanted.{PortsWanted, ports_in}
use Rattle.one_port.specs.declared.answer.Answer.{Answer}
use Rattle.one_port.specs.declared.answer.Answer.TheVariants.{Builders, Usage, NotYet}

-- the command is `bulk` and at least one further word
abbrev pub asked_words : List (List ℕ) → Option (List (List ℕ))
asked_words [] = None
asked_words (command ∷ []) = None
asked_words (command ∷ word ∷ more) = if bytes_eq command (codes "bulk") then Some (word ∷ more) else None

abbrev pub value_of : {X : Type 0} → Result X Answer → Option X
value_of (Ok x) = Some x
value_of (Err answer) = None

abbrev pub refusal_in : {X : Type 0} → Result X Answer → Option Answer
refusal_in (Ok x) = None
refusal_in (Err answer) = Some answer

-- what a command asks for over a tree
abbrev pub wanted_ports : List (List ℕ) → Contents → Option PortsWanted
wanted_ports words tree = option_and_then (λ asked. value_of (ports_in tree asked)) (asked_words words)

-- the first refusal that the tree gives cause for
abbrev pub tree_refusal : Contents → List (List ℕ) → Option Answer
tree_refusal tree asked = refusal_in (ports_in tree asked)

-- a name of a package file
abbrev pub is_package_file : List ℕ → Bool
is_package_file name = nat_lt 3 (length name) && bytes_eq (drop (length name - 4) name) (codes ".pkg")

-- the store's first package file, which is not served yet
abbrev pub store_refusal : Contents → Option Answer
store_refusal content = option_map NotYet (find is_package_file (keys content))

-- the first refusal that the words and the tree give cause for
abbrev pub refusal_before_store : List (List ℕ) → Contents → Option Answer
refusal_before_store words tree = option_map_or (tree_refusal tree) (asked_words words) (Some Usage)

-- the first refusal of a command over a tree and a store
abbrev pub refusal : List (List ℕ) → Contents → Contents → Option Answer
refusal words tree store = option_or (refusal_before_store words tree) (store_refusal store)

-- the first refusal as far as the objects tell it: a tree that does not tell hides its own and all behind it, as does a
-- store that does not tell
abbrev pub told_refusal : Bool → Bool → List (List ℕ) → Contents → Contents → Option Answer
told_refusal tree_tells store_tells words tree store =
    option_map_or (λ asked. if tree_tells then option_or (tree_refusal tree asked) (if store_tells then store_refusal store else None) else None) (asked_words words) (Some Usage)

-- the refusal of every command where there is no room
abbrev pub roomless_refusal : List (List ℕ) → Option Answer
roomless_refusal words = option_map_or (λ asked. Some (Builders 1 0)) (asked_words words) (Some Usage)

-- the first refusal that the words, the rooms and the tree give cause for
abbrev pub refusal_over_before_store : {R : Type 0} → List R → List (List ℕ) → Contents → Option Answer
refusal_over_before_store [] words tree = roomless_refusal words
refusal_over_before_store (room ∷ rooms) words tree = refusal_before_store words tree

-- the first refusal of a command over some rooms, as far as the tree and the store tell it
abbrev pub told_refusal_over : {R : Type 0} → List R → Bool → Bool → List (List ℕ) → Contents → Contents → Option Answer
told_refusal_over [] tree_tells store_tells words tree store = roomless_refusal words
told_refusal_over (room ∷ rooms) tree_tells store_tells words tree store = told_refusal tree_tells store_tells words tree store

-- the first refusal of a command over some rooms, a tree and a store
abbrev pub refusal_over : {R : Type 0} → List R → List (List ℕ) → Contents → Contents → Option Answer
refusal_over [] words tree store = roomless_refusal words
refusal_over (room ∷ rooms) words tree store = refusal words tree store
