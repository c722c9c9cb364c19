use Rattle.std.proofs.Common.{subst, sym}
use Rattle.bulk_model.specs.Facts.{IsFileList}
use Rattle.bulk_model.specs.Views.{JobView}
use Rattle.root_clone.proofs.Rooms.{base_in_room, installed_in_room, work_in_room, full_room, OnOk-map}
use Rattle.root_clone.proofs.filling.put_all.Goals as goal

pub put_base-requires : goal.put_base-requires
put_base-requires g c t = base_in_room c.args.base.now c.as_slice.result.now (g.R.Room.folder c.args.room.now) (c.requires.empty t) c.as_slice.ensures c.requires.base

pub put_installed-requires : goal.put_installed-requires
put_installed-requires g c t =
    installed_in_room c.args.base.now c.as_slice.result.now c.args.packages.now (g.R.Room.folder c.args.room.now) (g.R.Room.folder c.put_base.new.room)
    (c.requires.empty t) c.as_slice.ensures (c.in_ok-put_base.ensures.told t) c.requires.base c.requires.apart

pub put_work-requires : goal.put_work-requires
put_work-requires g c t =
    work_in_room c.args.base.now c.as_slice.result.now c.args.packages.now c.args.job.now.files (g.R.Room.folder c.args.room.now) (g.R.Room.folder c.put_base.new.room) (g.R.Room.folder c.put_installed.new.room)
    (c.requires.empty t) c.as_slice.ensures (c.in_ok-put_base.ensures.told t) (c.in_ok-put_installed.ensures.told t) c.requires.base (subst (λ (j : JobView). IsFileList 1019 j.files) c.job.view_is c.job.invariant.files)

pub returns-clause-told : goal.returns-clause-told
returns-clause-told g c t =
    OnOk-map c.put_work.result
    (λ full. full_room c.args.base.now c.as_slice.result.now c.args.packages.now c.args.job.now (g.R.Room.folder c.args.room.now) (g.R.Room.folder c.put_base.new.room) (g.R.Room.folder c.put_installed.new.room) (g.R.Room.folder c.put_work.new.room)
    (c.requires.empty t) c.as_slice.ensures (c.in_ok-put_base.ensures.told t) (c.in_ok-put_installed.ensures.told t) full c.requires.base c.requires.apart (subst (λ (j : JobView). IsFileList 1019 j.files) c.job.view_is c.job.invariant.files))
    (c.put_work.ensures.told t)
