use Rattle.std.proofs.Common.{refl, ◌∙◌, inl}
use Rattle.one_port.proofs.PortsBuilt.{in_error, builds_more, names_more, began_more}
use Rattle.one_port.proofs.port_builds.build_ports.Goals as goal

pub returns-in_err-outcome-clause-begun_err : goal.returns-in_err-outcome-clause-begun_err
returns-in_err-outcome-clause-begun_err g c =
    in_error _ _ (began_more c.args.jobs.now c.loop-job.job-index c.job-item.result (g.R.Room.begun c.args.room.now) (g.R.Room.begun c.loop-job.room) (g.R.Room.begun c.build_port.new.room)
    c.loop-job-test.true c.job-item.is c.loop-job.invariant.begun c.in_err-outcome.ensures.begun_err)

pub returns-in_err-push-clause-begun_err : goal.returns-in_err-push-clause-begun_err
returns-in_err-push-clause-begun_err g c =
    in_error _ _ (began_more c.args.jobs.now c.loop-job.job-index c.job-item.result (g.R.Room.begun c.args.room.now) (g.R.Room.begun c.loop-job.room) (g.R.Room.begun c.build_port.new.room)
    c.loop-job-test.true c.job-item.is c.loop-job.invariant.begun (inl c.in_ok-outcome.ensures.begun))

pub loop-job-preserved : goal.loop-job-preserved
loop-job-preserved g c = record {
  builds =
      builds_more g.R.Ways.Ways.tells g.R.Ways.Ways.runs c.args.jobs.now c.loop-job.job-index c.job-item.result c.loop-job.outcomes c.push.new.self c.in_ok-outcome.outcome
      c.loop-job-test.true c.job-item.is c.loop-job.invariant.builds c.in_ok-outcome.ensures.build c.in_ok-push.ensures.ok;
  begun =
      names_more c.args.jobs.now c.loop-job.job-index c.job-item.result (g.R.Room.begun c.args.room.now) (g.R.Room.begun c.loop-job.room) (g.R.Room.begun c.build_port.new.room)
      c.loop-job-test.true c.job-item.is c.loop-job.invariant.begun c.in_ok-outcome.ensures.begun;
  quiet = c.in_ok-outcome.ensures.cause.kept refl ∙ c.loop-job.invariant.quiet;
}
