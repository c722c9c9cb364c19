-- What kind of an end an answer is (docs/DEFINITIONS.md).
use Rattle.std.specs.Prelude.{ℕ}
use Rattle.one_port.specs.declared.answer.Answer.{Answer}
use Rattle.one_port.specs.declared.answer.Answer.TheVariants.{Done, Usage, Builders, BadConf, BadPort, DupName, Limit, NoOrigin, NoFlavor, Gone, MovedLoop, NotYet, TreeFault, StoreFault, RoomFault, SinkFault, NoMemory}

-- the lists were printed; the words, the tree or what is not served yet refuse; an object failed; memory was refused
pub data Kind : Type 0 where
  printed : Kind
  bad_words : Kind
  bad_tree : Kind
  not_served : Kind
  tree_failed : Kind
  store_failed : Kind
  room_failed : ℕ → Kind
  sink_failed : Kind
  no_memory : Kind

abbrev pub kind_of : Answer → Kind
kind_of Done = printed
kind_of Usage = bad_words
kind_of (Builders asked had) = bad_words
kind_of (BadConf path line kind) = bad_tree
kind_of (BadPort path line kind) = bad_tree
kind_of (DupName a b name) = bad_tree
kind_of (Limit which count) = bad_tree
kind_of (NoOrigin word) = bad_tree
kind_of (NoFlavor word) = bad_tree
kind_of (Gone word reason) = bad_tree
kind_of (MovedLoop origins) = bad_tree
kind_of (NotYet path) = not_served
kind_of TreeFault = tree_failed
kind_of StoreFault = store_failed
kind_of (RoomFault builder) = room_failed builder
kind_of SinkFault = sink_failed
kind_of NoMemory = no_memory
