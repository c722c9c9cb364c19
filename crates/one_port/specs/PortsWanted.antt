-- What the words ask for over a tree: the ports to be built, or the first refusal (docs/DEFINITIONS.md, "Wanted ports").
use Rattle.std.specs.Prelude.{ℕ, ◌||◌, false, List, [], map, find, codes, Option, Some, None, unwrap_or}
use Rattle.std.specs.Option.{option_map}
use Rattle.std.specs.declared.result.Result.{Result}
use Rattle.std.specs.declared.result.Result.TheVariants.{Ok, Err}
use Rattle.std.specs.FinMap.{get}
use Rattle.port_vars.specs.Assignment.{◌>>=◌}
use Rattle.outside.specs.Contents.{Contents}
use Rattle.bulk_model.specs.declared.reason.Notice.{Notice}
use Rattle.bulk_model.specs.Views.{JobView}
use Rattle.conf_file.specs.Make.{make_of}
use Rattle.conf_file.specs.declared.make.MakeConf.{MakeConf}
use Rattle.tree_index.specs.declared.node.NodeInfo.{NodeInfo}
use Rattle.tree_index.specs.Faults.{refused_as}
use Rattle.tree_index.specs.Places.{port_file}
use Rattle.tree_index.specs.Index.{IndexView, index_of}
use Rattle.origin_flavor.specs.declared.selection.Wanted.{Wanted}
use Rattle.origin_flavor.specs.Command.{wanted_of}
use Rattle.one_port.specs.declared.answer.Answer.{Answer}
use Rattle.one_port.specs.declared.answer.Answer.TheVariants.{NotYet}
use Rattle.one_port.specs.TreeAnswers.{conf_answer, index_answer, wanted_answer}
use Rattle.one_port.specs.Unserved.{unserved_file, is_unserved}
use Rattle.one_port.specs.NodeJobs.{nodes_at, jobs_in}

-- the ports that are built, in this order, and what is said of the words
pub record PortsWanted : Type 0 where
  pub jobs : List JobView
  pub notices : List Notice

-- the packages' names of some jobs
abbrev pub names_of : List JobView → List (List ℕ)
names_of jobs = map (λ job. job.name) jobs

-- a refusal, if there is one, stands before a result
abbrev pub unless_refused : {X : Type 0} → Option Answer → Result X Answer → Result X Answer
unless_refused None result = result
unless_refused (Some answer) result = Err answer

abbrev pub make_file : List ℕ
make_file = codes "etc/make.conf"

-- what make.conf says; a tree without one sets nothing
abbrev pub make_at : Contents → Result MakeConf Answer
make_at content = refused_as (conf_answer make_file) (make_of (unwrap_or (get content make_file) []))

-- the index of the tree
abbrev pub index_at : MakeConf → Contents → Result IndexView Answer
index_at make content = refused_as index_answer (index_of make (make.try_broken || false) content)

-- the nodes that the words want
abbrev pub wanted_in : IndexView → List (List ℕ) → Result Wanted Answer
wanted_in index words = refused_as wanted_answer (wanted_of index None words false false)

-- where a node that is not served yet is refused
abbrev pub refusal_of_node : NodeInfo → Answer
refusal_of_node node = NotYet (port_file node.origin)

-- the ports of some nodes, unless one of them is not served yet
abbrev pub ports_of : Contents → List NodeInfo → List Notice → Result PortsWanted Answer
ports_of content nodes notices = unless_refused (option_map refusal_of_node (find is_unserved nodes)) (do
  jobs ← jobs_in content nodes
  Ok (record { jobs = jobs; notices = notices }))

-- the ports that words want of an indexed tree
abbrev pub ports_by : Contents → List (List ℕ) → IndexView → Result PortsWanted Answer
ports_by content words index = do
  wanted ← wanted_in index words
  ports_of content (nodes_at index.nodes wanted.nodes) wanted.notices

-- the ports that words want of a tree whose make.conf says this
abbrev pub ports_with : Contents → List (List ℕ) → MakeConf → Result PortsWanted Answer
ports_with content words make = unless_refused (option_map NotYet (unserved_file content)) (do
  index ← index_at make content
  ports_by content words index)

-- the ports that words want of a tree, or the first refusal: of make.conf, of a file that is not served yet, of the tree, of
-- the words, of a node that is not served yet, of a file that is too large
unfoldable pub ports_in : Contents → List (List ℕ) → Result PortsWanted Answer
ports_in content words = do
  make ← make_at content
  ports_with content words make
