-- What building some ports and storing their packages leave.
use Rattle.std.specs.Prelude.{◌≡◌, ℕ, Bool, List, [], ◌++◌, take, Some}
use Rattle.std.specs.List.{AllZip}
use Rattle.outside.specs.Contents.{Contents}
use Rattle.bulk_model.specs.declared.outcome.Outcome.{Outcome}
use Rattle.bulk_model.specs.declared.reason.Notice.{Notice}
use Rattle.bulk_model.specs.Bake.{Runs}
use Rattle.bulk_model.specs.Baked.{IsBuildOf}
use Rattle.bulk_model.specs.Views.{JobView}
use Rattle.one_port.specs.PortsWanted.{PortsWanted, names_of}
use Rattle.one_port.specs.Refusals.{wanted_ports}
use Rattle.one_port.specs.Report.{stored_all, ports_text, ports_status}
use Rattle.one_port.specs.declared.port_run.Report.{Report}

-- the report of some ports' outcomes
pub record Reports (jobs : List JobView) (notices : List Notice) (outcomes : List Outcome) (report : Report) : Type 0 where
  pub text : report.text.items ≡ ports_text jobs notices outcomes
  pub status : report.status ≡ ports_status outcomes

-- what a build of a job may come to, over no base root and with nothing installed
abbrev pub IsBuildAlone : Bool → Runs → JobView → Outcome → Type 0
IsBuildAlone tells runs job outcome = IsBuildOf tells runs [] job [] outcome

-- one outcome for each job, in their order, each that of the job's build
abbrev pub AreBuildsOf : Bool → Runs → List JobView → List Outcome → Type 0
AreBuildsOf tells runs jobs outcomes = AllZip (IsBuildAlone tells runs) jobs outcomes

-- the store has what the builds of these jobs came to, and is else as it was
pub record HasStored (tells : Bool) (runs : Runs) (jobs : List JobView) (before now : Contents) : Type 0 where
  pub outcomes : List Outcome
  pub builds : AreBuildsOf tells runs jobs outcomes
  pub content : now ≡ stored_all outcomes before

-- the same of some first jobs of a list, as packages are stored one after another
pub record HasStoredFirst (tells : Bool) (runs : Runs) (jobs : List JobView) (before now : Contents) : Type 0 where
  pub count : ℕ
  pub stored : HasStored tells runs (take count jobs) before now

-- the store has some first of these outcomes, and is else as it was
abbrev pub KeepsFirst : List Outcome → Contents → Contents → Type 0
KeepsFirst outcomes before now = (count : ℕ) × (now ≡ stored_all (take count outcomes) before)

-- the ports were built in their order: their names were begun, the store has what was built, and the report says so
pub record RanPorts (tells : Bool) (runs : Runs) (jobs : List JobView) (notices : List Notice) (before now : Contents) (begun_before begun_now : List (List ℕ)) (report : Report) : Type 0 where
  pub outcomes : List Outcome
  pub builds : AreBuildsOf tells runs jobs outcomes
  pub content : now ≡ stored_all outcomes before
  pub begun : begun_now ≡ begun_before ++ names_of jobs
  pub reported : Reports jobs notices outcomes report

-- what a command asks for was built
pub record RanWanted (tells : Bool) (runs : Runs) (words : List (List ℕ)) (tree before now : Contents) (begun_before begun_now : List (List ℕ)) (report : Report) : Type 0 where
  pub ports : PortsWanted
  pub wanted : wanted_ports words tree ≡ Some ports
  pub ran : RanPorts tells runs ports.jobs ports.notices before now begun_before begun_now report

-- the store has what the builds of the wanted ports came to, and is else as it was
pub record HasStoredWanted (tells : Bool) (runs : Runs) (words : List (List ℕ)) (tree before now : Contents) : Type 0 where
  pub ports : PortsWanted
  pub wanted : wanted_ports words tree ≡ Some ports
  pub kept : HasStored tells runs ports.jobs before now

-- the same of some first of the wanted ports
pub record HasStoredFirstWanted (tells : Bool) (runs : Runs) (words : List (List ℕ)) (tree before now : Contents) : Type 0 where
  pub ports : PortsWanted
  pub wanted : wanted_ports words tree ≡ Some ports
  pub kept : HasStoredFirst tells runs ports.jobs before now

-- a whole run: the ports that a command asks for were built and their names begun, each once and in their order, their
-- packages stored, and their lists printed
pub record IsWhole (tells : Bool) (runs : Runs) (words : List (List ℕ)) (tree before now : Contents) (begun_before begun_now : List (List ℕ)) (printed_before printed : List ℕ) (exit : ℕ) : Type 0 where
  pub ports : PortsWanted
  pub outcomes : List Outcome
  pub wanted : wanted_ports words tree ≡ Some ports
  pub builds : AreBuildsOf tells runs ports.jobs outcomes
  pub content : now ≡ stored_all outcomes before
  pub begun : begun_now ≡ begun_before ++ names_of ports.jobs
  pub text : printed ≡ printed_before ++ ports_text ports.jobs ports.notices outcomes
  pub status : exit ≡ ports_status outcomes
