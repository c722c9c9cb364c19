use Rattle.std.proofs.Common.{◌∙◌, ap}
use Rattle.bulk_model.specs.Bake.{staged}
use Rattle.one_port.specs.RoomBuild.{packed_alone}
use Rattle.one_port.proofs.CutFiles.{packed-cut}
use Rattle.one_port.proofs.room_build.pack_staged.Goals as goal

pub returns-clause-told : goal.returns-clause-told
returns-clause-told g c t =
    c.in_ok-pack.ensures.told ∙ ap (packed_alone c.args.job.now) (c.in_ok-files.ensures.told t)
    ∙ packed-cut c.args.most c.args.job.now (staged (g.R.Room.folder c.args.room.now)) c.requires
