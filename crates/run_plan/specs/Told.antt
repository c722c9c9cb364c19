-- What the refusals of the readers below are told as (docs/FORMATS.md, "Refusals").
use Rattle.std.specs.Prelude.{ℕ, List}
use Rattle.conf_file.specs.declared.fault.ConfError.{ConfError}
use Rattle.conf_file.specs.declared.fault.ConfError.TheVariants as conf
use Rattle.tree_index.specs.declared.fault.IndexError.{IndexError}
use Rattle.tree_index.specs.declared.fault.IndexError.TheVariants as index
use Rattle.origin_flavor.specs.declared.fault.WantedError.{WantedError}
use Rattle.origin_flavor.specs.declared.fault.WantedError.TheVariants as wanted
use Rattle.job_files.specs.declared.fault.PlanError.{PlanError}
use Rattle.job_files.specs.declared.fault.PlanError.TheVariants as plan
use Rattle.run_answer.specs.declared.answer.Answer.{Answer}
use Rattle.run_answer.specs.declared.answer.Answer.TheVariants.{BadConf, BadPort, DupName, Limit, BadList, NoOrigin, NoFlavor, Gone, MovedLoop, NoDepend, MovedDepend, Loop, BadDist, TreeFault, NoMemory}

-- a fault of a file of settings
abbrev pub conf_answer : List ℕ → ConfError → Answer
conf_answer path (conf.BadLine line kind) = BadConf path line kind
conf_answer path conf.NoMemory = NoMemory

-- a refusal of the index
abbrev pub index_answer : IndexError → Answer
index_answer index.TreeFault = TreeFault
index_answer (index.BadPort path line kind) = BadPort path line kind
index_answer (index.Limit which count) = Limit which count
index_answer (index.DupName a b name) = DupName a b name
index_answer index.NoMemory = NoMemory

-- a refusal of the list of that path, or of a word
abbrev pub wanted_answer : List ℕ → WantedError → Answer
wanted_answer path (wanted.BadList line) = BadList path line
wanted_answer path (wanted.NoOrigin word) = NoOrigin word
wanted_answer path (wanted.NoFlavor word) = NoFlavor word
wanted_answer path (wanted.Gone word reason) = Gone word reason
wanted_answer path (wanted.MovedLoop origins) = MovedLoop origins
wanted_answer path wanted.NoMemory = NoMemory

-- a refusal of the plan
abbrev pub plan_answer : PlanError → Answer
plan_answer (plan.NoDepend port origin) = NoDepend port origin
plan_answer (plan.MovedDepend port old new) = MovedDepend port old new
plan_answer (plan.Limit which count) = Limit which count
plan_answer (plan.Loop ports) = Loop ports
plan_answer plan.TreeFault = TreeFault
plan_answer (plan.BadPort path line kind) = BadPort path line kind
plan_answer (plan.BadDist port file why) = BadDist port file why
plan_answer plan.NoMemory = NoMemory
