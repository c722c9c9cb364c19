-- What the builds of ports give a run: its exit status, its text, and what is put into the store.
use Rattle.std.specs.Prelude.{ℕ, List, [], ◌∷◌, map}
use Rattle.std.specs.FinMap.{insert}
use Rattle.outside.specs.Contents.{Contents}
use Rattle.bulk_model.specs.declared.outcome.Outcome.{Outcome}
use Rattle.bulk_model.specs.declared.outcome.Outcome.TheVariants.{Built, Failed}
use Rattle.bulk_model.specs.declared.reason.Notice.{Notice}
use Rattle.bulk_model.specs.Results.{status_of_outcome}
use Rattle.bulk_model.specs.Lists.{lists, exit_status}
use Rattle.bulk_model.specs.FileNames.{package_file}
use Rattle.bulk_model.specs.Spelling.{spelling}
use Rattle.bulk_model.specs.Views.{JobView}
use Rattle.one_port.specs.PortsPlan.{plan_of}

-- the store after a build: the package's record stands under its name
abbrev pub stored : Outcome → Contents → Contents
stored (Built p) store = insert store (package_file p.name) (spelling p)
stored (Failed phase code) store = store

-- the store after some builds, one after another
abbrev pub stored_all : List Outcome → Contents → Contents
stored_all [] store = store
stored_all (outcome ∷ outcomes) store = stored_all outcomes (stored outcome store)

-- the text and the exit status of a run that built some ports
abbrev pub ports_text : List JobView → List Notice → List Outcome → List ℕ
ports_text jobs notices outcomes = lists (plan_of jobs) (map status_of_outcome outcomes) [] notices

abbrev pub ports_status : List Outcome → ℕ
ports_status outcomes = exit_status (map status_of_outcome outcomes)
