use Rattle.std.proofs.Common.{◌≡◌, ◌++◌, take}
use Rattle.one_port.specs.PortsWanted.{names_of}
use Rattle.one_port.specs.PortsRun.{AreBuildsOf}
use Rattle.one_port.proofs.port_builds.build_ports.Given as goal

abbrev pub invariant-loop-job : goal.invariant-loop-job
invariant-loop-job g l = record {
  builds : AreBuildsOf g.R.Ways.Ways.tells g.R.Ways.Ways.runs (take l.job-index l.jobs) l.outcomes;
  begun : g.R.Room.begun l.room ≡ g.R.Room.begun l.initial.room ++ names_of (take l.job-index l.jobs);
  quiet : g.R.Room.faults l.room ≡ g.R.Room.faults l.initial.room;
}
