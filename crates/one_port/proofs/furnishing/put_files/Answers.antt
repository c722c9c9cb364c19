use Rattle.std.proofs.Common.{refl, ◌∙◌, ap, codes}
use Rattle.bulk_base.specs.Text.{is_text}
use Rattle.one_port.proofs.FolderNames.{is_text-work}
use Rattle.one_port.proofs.Placed.{free_in_loop, placed_in_loop, short_in_loop}
use Rattle.one_port.proofs.furnishing.put_files.Goals as goal

pub of-requires-clause-text : goal.of-requires-clause-text
of-requires-clause-text g c = ap is_text c.as_slice.ensures ∙ is_text-work

pub path_below-requires : goal.path_below-requires
path_below-requires g c =
    short_in_loop (codes "work") c.in_ok-work.work 1019 c.args.files.now c.loop-file.file-index c.file-item.result c.loop-file-test.true c.requires.files.short c.file-item.is (c.in_ok-work.ensures ∙ c.as_slice.ensures)

pub put-requires : goal.put-requires
put-requires g c t =
    free_in_loop (codes "work") c.in_ok-work.work c.args.files.now c.loop-file.file-index c.file-item.result c.in_ok-path.path (g.R.Room.folder c.loop-file.room) c.loop-file-test.true
    (record { order = c.requires.files.order; apart = c.requires.files.apart }) c.file-item.is (c.in_ok-work.ensures ∙ c.as_slice.ensures) c.in_ok-path.ensures (c.loop-file.invariant.told t)

pub loop-file-preserved : goal.loop-file-preserved
loop-file-preserved g c = record {
  told = λ t.
      placed_in_loop (codes "work") c.in_ok-work.work c.args.files.now c.loop-file.file-index c.file-item.result c.in_ok-path.path c.as_slice-in-loop-file.result.now (g.R.Room.folder c.loop-file.room) (g.R.Room.folder c.put.new.self)
      c.loop-file-test.true (record { order = c.requires.files.order; apart = c.requires.files.apart }) c.file-item.is (c.in_ok-work.ensures ∙ c.as_slice.ensures) c.in_ok-path.ensures c.as_slice-in-loop-file.ensures
      (c.loop-file.invariant.told t) (c.in_ok-put.ensures.told t);
  begun = c.in_ok-put.ensures.begun ∙ c.loop-file.invariant.begun;
  quiet = c.in_ok-put.ensures.cause.kept refl ∙ c.loop-file.invariant.quiet;
}
