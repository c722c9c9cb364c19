-- What follows from an answer's kind.
use Rattle.std.proofs.Common.{◌≡◌, ℕ, Bool, true, false, ap, sym, refl}
use Rattle.std.proofs.lemmas.Bool.{eqb-true}
use mathlib.Core.Bool.{true≢false}
use Rattle.one_port.specs.declared.answer.Answer.{Answer}
use Rattle.one_port.specs.declared.answer.Answer.TheVariants.{Done, Usage, Builders, BadConf, BadPort, DupName, Limit, NoOrigin, NoFlavor, Gone, MovedLoop, NotYet, TreeFault, StoreFault, RoomFault, SinkFault, NoMemory}
use Rattle.one_port.specs.Kind.{Kind, kind_of, printed, bad_words, bad_tree, not_served, tree_failed, store_failed, room_failed, sink_failed, no_memory}
use Rattle.one_port.specs.Causes.{refuses, is_store_failure, is_room_failure}
use Rattle.one_port.specs.Decided.{comes_inside, comes_of_reading, comes_of_words, comes_of_tree}

abbrev is_want_of_memory : Kind → Bool
is_want_of_memory no_memory = true
is_want_of_memory _ = false

-- one answer alone is want of memory
only_no_memory : (answer : Answer) → is_want_of_memory (kind_of answer) ≡ true → answer ≡ NoMemory
only_no_memory Done h = absurd (true≢false (sym h))
only_no_memory Usage h = absurd (true≢false (sym h))
only_no_memory (Builders asked had) h = absurd (true≢false (sym h))
only_no_memory (BadConf path line kind) h = absurd (true≢false (sym h))
only_no_memory (BadPort path line kind) h = absurd (true≢false (sym h))
only_no_memory (DupName a b name) h = absurd (true≢false (sym h))
only_no_memory (Limit which count) h = absurd (true≢false (sym h))
only_no_memory (NoOrigin word) h = absurd (true≢false (sym h))
only_no_memory (NoFlavor word) h = absurd (true≢false (sym h))
only_no_memory (Gone word reason) h = absurd (true≢false (sym h))
only_no_memory (MovedLoop origins) h = absurd (true≢false (sym h))
only_no_memory (NotYet path) h = absurd (true≢false (sym h))
only_no_memory TreeFault h = absurd (true≢false (sym h))
only_no_memory StoreFault h = absurd (true≢false (sym h))
only_no_memory (RoomFault builder) h = absurd (true≢false (sym h))
only_no_memory SinkFault h = absurd (true≢false (sym h))
only_no_memory NoMemory h = refl

pub of_no_memory : (answer : Answer) → kind_of answer ≡ no_memory → answer ≡ NoMemory
of_no_memory answer e = only_no_memory answer (ap is_want_of_memory e)

-- one answer alone is that all was printed
abbrev is_printed : Kind → Bool
is_printed printed = true
is_printed _ = false

only_done : (answer : Answer) → is_printed (kind_of answer) ≡ true → answer ≡ Done
only_done Done h = refl
only_done Usage h = absurd (true≢false (sym h))
only_done (Builders asked had) h = absurd (true≢false (sym h))
only_done (BadConf path line kind) h = absurd (true≢false (sym h))
only_done (BadPort path line kind) h = absurd (true≢false (sym h))
only_done (DupName a b name) h = absurd (true≢false (sym h))
only_done (Limit which count) h = absurd (true≢false (sym h))
only_done (NoOrigin word) h = absurd (true≢false (sym h))
only_done (NoFlavor word) h = absurd (true≢false (sym h))
only_done (Gone word reason) h = absurd (true≢false (sym h))
only_done (MovedLoop origins) h = absurd (true≢false (sym h))
only_done (NotYet path) h = absurd (true≢false (sym h))
only_done TreeFault h = absurd (true≢false (sym h))
only_done StoreFault h = absurd (true≢false (sym h))
only_done (RoomFault builder) h = absurd (true≢false (sym h))
only_done SinkFault h = absurd (true≢false (sym h))
only_done NoMemory h = absurd (true≢false (sym h))

pub of_printed : (answer : Answer) → kind_of answer ≡ printed → answer ≡ Done
of_printed answer e = only_done answer (ap is_printed e)

pub room_number : (b : ℕ) → comes_inside (room_failed b) ≡ true → b ≡ 0
room_number b h = eqb-true b 0 h

-- what reading the tree may answer comes inside, blames neither the store nor a room, and is not of the words alone
pub record IsReadingKind (k : Kind) : Type 0 where
  pub inner : comes_inside k ≡ true
  pub store : is_store_failure k ≡ false
  pub room : is_room_failure k ≡ false
  pub words : comes_of_words k ≡ false

pub reading_kind : (k : Kind) → comes_of_reading k ≡ true → IsReadingKind k
reading_kind printed h = absurd (true≢false (sym h))
reading_kind bad_words h = absurd (true≢false (sym h))
reading_kind bad_tree h = record { inner = refl; store = refl; room = refl; words = refl }
reading_kind not_served h = record { inner = refl; store = refl; room = refl; words = refl }
reading_kind tree_failed h = record { inner = refl; store = refl; room = refl; words = refl }
reading_kind store_failed h = absurd (true≢false (sym h))
reading_kind (room_failed b) h = absurd (true≢false (sym h))
reading_kind sink_failed h = absurd (true≢false (sym h))
reading_kind no_memory h = record { inner = refl; store = refl; room = refl; words = refl }

-- what is no refusal is of neither the words nor the tree
pub unrefused_words : (k : Kind) → refuses k ≡ false → comes_of_words k ≡ false
unrefused_words printed h = refl
unrefused_words bad_words h = absurd (true≢false h)
unrefused_words bad_tree h = refl
unrefused_words not_served h = refl
unrefused_words tree_failed h = refl
unrefused_words store_failed h = refl
unrefused_words (room_failed b) h = refl
unrefused_words sink_failed h = refl
unrefused_words no_memory h = refl

pub unrefused_tree : (k : Kind) → refuses k ≡ false → comes_of_tree k ≡ false
unrefused_tree printed h = refl
unrefused_tree bad_words h = absurd (true≢false h)
unrefused_tree bad_tree h = absurd (true≢false h)
unrefused_tree not_served h = refl
unrefused_tree tree_failed h = refl
unrefused_tree store_failed h = refl
unrefused_tree (room_failed b) h = refl
unrefused_tree sink_failed h = refl
unrefused_tree no_memory h = refl
