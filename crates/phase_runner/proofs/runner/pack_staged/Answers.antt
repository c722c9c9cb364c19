use Rattle.std.proofs.Common.{◌∙◌, ap}
use Rattle.bulk_model.specs.Bake.{staged}
use Rattle.phase_runner.specs.Running.{packed_light}
use Rattle.phase_runner.proofs.Baking.{packed_when_light}
use Rattle.phase_runner.proofs.runner.pack_staged.Goals as goal

pub returns-clause-told : goal.returns-clause-told
returns-clause-told g c t =
    c.in_ok-pack.ensures.told
    ∙ ap (packed_light c.args.base.now c.args.job.now c.args.packages.now) (c.in_ok-files.ensures.told t)
    ∙ packed_when_light c.args.base.now c.args.job.now c.args.packages.now (staged (g.R.Room.folder c.args.room.now))
