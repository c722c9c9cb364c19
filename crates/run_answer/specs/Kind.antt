-- What kind of an end an answer is (docs/DEFINITIONS.md).
use Rattle.std.specs.Prelude.{ℕ, Bool, true, false}
use Rattle.run_answer.specs.declared.answer.Answer.{Answer}
use Rattle.run_answer.specs.declared.answer.Answer.TheVariants.{Done, Usage, Builders, BadConf, BadPort, DupName, Limit, NoList, BadList, NoOrigin, NoFlavor, Gone, MovedLoop, NoDepend, MovedDepend, Loop, BadDist, BadCurrent, TreeFault, StoreFault, DistFault, SiteFault, RoomFault, SinkFault, NoMemory}

-- the lists were printed; words, tree or store refuse; the site refuses; an object failed; memory
-- was refused
pub data Kind : Type 0 where
  printed : Kind
  refused : Kind
  bad_site : Kind
  tree_failed : Kind
  store_failed : Kind
  dist_failed : Kind
  site_failed : Kind
  room_failed : ℕ → Kind
  sink_failed : Kind
  no_memory : Kind

abbrev pub kind_of : Answer → Kind
kind_of Done = printed
kind_of Usage = refused
kind_of (Builders asked had) = refused
kind_of (BadConf path line kind) = refused
kind_of (BadPort path line kind) = refused
kind_of (DupName a b name) = refused
kind_of (Limit which count) = refused
kind_of (NoList path) = refused
kind_of (BadList path line) = refused
kind_of (NoOrigin word) = refused
kind_of (NoFlavor word) = refused
kind_of (Gone word reason) = refused
kind_of (MovedLoop origins) = refused
kind_of (NoDepend port origin) = refused
kind_of (MovedDepend port old new) = refused
kind_of (Loop ports) = refused
kind_of (BadDist port file why) = refused
kind_of BadCurrent = bad_site
kind_of TreeFault = tree_failed
kind_of StoreFault = store_failed
kind_of DistFault = dist_failed
kind_of SiteFault = site_failed
kind_of (RoomFault builder) = room_failed builder
kind_of SinkFault = sink_failed
kind_of NoMemory = no_memory

-- an answer of `bulk`, which has neither a folder of distfiles of its own nor a site
abbrev pub comes_of_bulk : Kind → Bool
comes_of_bulk bad_site = false
comes_of_bulk dist_failed = false
comes_of_bulk site_failed = false
comes_of_bulk _ = true

abbrev pub is_of_bulk : Answer → Bool
is_of_bulk answer = comes_of_bulk (kind_of answer)

-- a refusal: what words, tree, store and site decide
abbrev pub comes_of_contents : Kind → Bool
comes_of_contents refused = true
comes_of_contents bad_site = true
comes_of_contents _ = false

abbrev pub is_refusal : Answer → Bool
is_refusal answer = comes_of_contents (kind_of answer)

-- what reading words and tree may answer: a refusal, a fault of the tree, or want of memory
abbrev pub comes_of_reading : Kind → Bool
comes_of_reading refused = true
comes_of_reading tree_failed = true
comes_of_reading no_memory = true
comes_of_reading _ = false

abbrev pub is_of_reading : Answer → Bool
is_of_reading answer = comes_of_reading (kind_of answer)

-- an answer that blames the tree, or the store
abbrev pub is_tree_failure : Kind → Bool
is_tree_failure tree_failed = true
is_tree_failure _ = false

abbrev pub blames_tree : Answer → Bool
blames_tree answer = is_tree_failure (kind_of answer)

abbrev pub is_store_failure : Kind → Bool
is_store_failure store_failed = true
is_store_failure _ = false

abbrev pub blames_store : Answer → Bool
blames_store answer = is_store_failure (kind_of answer)
