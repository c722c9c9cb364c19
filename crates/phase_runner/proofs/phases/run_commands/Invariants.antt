use Rattle.std.proofs.Common.{◌≡◌, drop}
use Rattle.std.specs.Prelude.{IsTrue}
use Rattle.bulk_model.specs.Bake.{run_all}
use Rattle.phase_runner.proofs.phases.run_commands.Given as goal

abbrev pub invariant-loop-command : goal.invariant-loop-command
invariant-loop-command g l = record {
  told : IsTrue g.R.Ways.Ways.tells
      → run_all g.R.Ways.Ways.runs (drop l.command-index l.commands) (g.R.Room.folder l.room)
      ≡ run_all g.R.Ways.Ways.runs l.commands (g.R.Room.folder l.initial.room);
  begun : g.R.Room.begun l.room ≡ g.R.Room.begun l.initial.room;
  quiet : g.R.Room.faults l.room ≡ g.R.Room.faults l.initial.room;
}
