-- What the refusals of the tree's readers are told as (docs/FORMATS.md, "Refusals").
use Rattle.std.specs.Prelude.{ℕ, List}
use Rattle.conf_file.specs.declared.fault.ConfError.{ConfError}
use Rattle.conf_file.specs.declared.fault.ConfError.TheVariants as conf
use Rattle.bulk_model.specs.declared.which.Which.{Which}
use Rattle.bulk_model.specs.declared.which.Which.TheVariants.{FileBytes}
use Rattle.tree_index.specs.Places.{moved_file}
use Rattle.tree_index.specs.declared.fault.IndexError.{IndexError}
use Rattle.tree_index.specs.declared.fault.IndexError.TheVariants as index
use Rattle.origin_flavor.specs.declared.fault.WantedError.{WantedError}
use Rattle.origin_flavor.specs.declared.fault.WantedError.TheVariants as wanted
use Rattle.one_port.specs.declared.answer.Answer.{Answer}
use Rattle.one_port.specs.declared.answer.Answer.TheVariants.{BadConf, BadPort, DupName, Limit, NoOrigin, NoFlavor, Gone, MovedLoop, NotYet, TreeFault, NoMemory}

-- a fault of a file of settings
abbrev pub conf_answer : List ℕ → ConfError → Answer
conf_answer path (conf.BadLine line kind) = BadConf path line kind
conf_answer path conf.NoMemory = NoMemory

-- a limit that the index passes; a MOVED that is too large is not served yet
abbrev pub limit_answer : Which → ℕ → Answer
limit_answer FileBytes count = NotYet moved_file
limit_answer which count = Limit which count

-- a refusal of the index
abbrev pub index_answer : IndexError → Answer
index_answer index.TreeFault = TreeFault
index_answer (index.BadPort path line kind) = BadPort path line kind
index_answer (index.Limit which count) = limit_answer which count
index_answer (index.DupName a b name) = DupName a b name
index_answer index.NoMemory = NoMemory

-- a refusal of a word; no list file is read, so that none is bad
abbrev pub wanted_answer : WantedError → Answer
wanted_answer (wanted.BadList line) = NoMemory
wanted_answer (wanted.NoOrigin word) = NoOrigin word
wanted_answer (wanted.NoFlavor word) = NoFlavor word
wanted_answer (wanted.Gone word reason) = Gone word reason
wanted_answer (wanted.MovedLoop origins) = MovedLoop origins
wanted_answer wanted.NoMemory = NoMemory
