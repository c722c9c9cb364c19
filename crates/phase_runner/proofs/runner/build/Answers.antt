use Rattle.std.proofs.Common.{◌≡◌, ◌∙◌, ap, sym}
use Rattle.std.proofs.lemmas.Result.{IfOk-weaker}
use Rattle.bulk_model.specs.Bake.{packed, phases_of, run_phases, staged}
use Rattle.phase_runner.specs.Running.{outcome_after}
use Rattle.phase_runner.proofs.runner.build.Goals as goal

pub returns-in-Some-clause-told : goal.returns-in-Some-clause-told
returns-in-Some-clause-told g c t =
    let pack = packed c.args.base.now c.args.job.now c.args.packages.now in
    sym (c.in_ok-stop.ensures.told t pack ∙ ap (λ stop. outcome_after pack stop (g.R.Room.folder c.run_phases.new.room)) c.in-Some.is)

pub returns-in-None-clause-told : goal.returns-in-None-clause-told
returns-in-None-clause-told g c t =
    let pack = packed c.args.base.now c.args.job.now c.args.packages.now in
    let folder = g.R.Room.folder c.run_phases.new.room in
    IfOk-weaker c.pack_staged.result (λ outcome. outcome ≡ pack (staged folder))
    (λ outcome. outcome ≡ run_phases g.R.Ways.Ways.runs pack (phases_of c.args.job.now.steps) (g.R.Room.folder c.args.room.now))
    (λ outcome e. e ∙ sym (c.in_ok-stop.ensures.told t pack ∙ ap (λ stop. outcome_after pack stop folder) c.in-None.is))
    (c.pack_staged.ensures.told t)
