-- Which object an answer blames.
use Rattle.std.specs.Prelude.{Bool, true, false}
use Rattle.one_port.specs.declared.answer.Answer.{Answer}
use Rattle.one_port.specs.Kind.{Kind, kind_of, bad_words, bad_tree, not_served, tree_failed, store_failed, room_failed}

abbrev pub is_tree_failure : Kind → Bool
is_tree_failure tree_failed = true
is_tree_failure _ = false

abbrev pub is_store_failure : Kind → Bool
is_store_failure store_failed = true
is_store_failure _ = false

abbrev pub is_room_failure : Kind → Bool
is_room_failure (room_failed builder) = true
is_room_failure _ = false

abbrev pub blames_tree : Answer → Bool
blames_tree answer = is_tree_failure (kind_of answer)

abbrev pub blames_store : Answer → Bool
blames_store answer = is_store_failure (kind_of answer)

abbrev pub blames_room : Answer → Bool
blames_room answer = is_room_failure (kind_of answer)

-- a refusal: what the words, the tree and the store decide
abbrev pub refuses : Kind → Bool
refuses bad_words = true
refuses bad_tree = true
refuses not_served = true
refuses _ = false

abbrev pub is_refusal : Answer → Bool
is_refusal answer = refuses (kind_of answer)

-- an answer that stands before a room is entered: a refusal, or a fault of the tree
abbrev pub comes_before_rooms : Kind → Bool
comes_before_rooms bad_words = true
comes_before_rooms bad_tree = true
comes_before_rooms not_served = true
comes_before_rooms tree_failed = true
comes_before_rooms _ = false

abbrev pub leaves_rooms : Answer → Bool
leaves_rooms answer = comes_before_rooms (kind_of answer)

-- an answer that stands before the store is changed: one of those, or a fault of a room
abbrev pub comes_before_store : Kind → Bool
comes_before_store bad_words = true
comes_before_store bad_tree = true
comes_before_store not_served = true
comes_before_store tree_failed = true
comes_before_store (room_failed builder) = true
comes_before_store _ = false

abbrev pub leaves_store : Answer → Bool
leaves_store answer = comes_before_store (kind_of answer)
