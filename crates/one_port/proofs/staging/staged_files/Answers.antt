use Rattle.std.proofs.Common.{◌∙◌, ap, refl, codes, length}
use Rattle.std.specs.Prelude.{nat_le}
use Rattle.std.specs.List.{list_all}
use Rattle.bulk_base.specs.Text.{is_text}
use Rattle.bulk_model.specs.Facts.{paths_of}
use Rattle.one_port.specs.RoomBuild.{taken_at}
use Rattle.one_port.proofs.FolderNames.{is_text-stage}
use Rattle.one_port.proofs.Staged.{found_in_loop, form_in_loop, short_so_far, form_at_start, all_taken}
use Rattle.one_port.proofs.staging.staged_files.Goals as goal

pub of-requires-clause-text : goal.of-requires-clause-text
of-requires-clause-text g c = ap is_text c.as_slice.ensures ∙ is_text-stage

pub loop-path-init : goal.loop-path-init
loop-path-init g c = record {
  told = λ t. c.new-files.ensures;
  same = λ t. refl;
  form = form_at_start (codes "stage") c.in_ok-stage.stage c.new-files.result c.as_slice-path-items.result.now c.in_ok-paths.paths c.new-files.ensures c.as_slice-path-items.ensures (c.in_ok-stage.ensures ∙ c.as_slice.ensures) c.in_ok-paths.ensures.listing;
  short = ap (λ files. list_all (λ path. nat_le (length path) 1018) (paths_of files)) c.new-files.ensures;
  begun = refl;
  quiet = refl;
}

pub loop-path-preserved : goal.loop-path-preserved
loop-path-preserved g c = record {
  told = λ t.
      found_in_loop (taken_at c.args.most (codes "stage") (g.R.Room.folder c.names.new.self)) c.as_slice-path-items.result.now c.loop-path.path-index c.path-item.result c.loop-path.files c.push_found.new.files c.in_ok-found.found
      c.loop-path-test.true c.path-item.is (c.loop-path.invariant.told t)
      (c.in_ok-found.ensures.told t ∙ ap (λ m. taken_at c.args.most (codes "stage") m c.path-item.result) (c.loop-path.invariant.same t)) c.in_ok-push_found.ensures;
  same = λ t. c.in_ok-found.ensures.same t ∙ c.loop-path.invariant.same t;
  form =
      form_in_loop (codes "stage") c.as_slice-path-items.result.now c.loop-path.path-index c.path-item.result c.loop-path.files c.push_found.new.files c.in_ok-found.found
      c.loop-path-test.true c.path-item.is c.in_ok-found.ensures.path c.in_ok-push_found.ensures c.loop-path.invariant.form;
  short = short_so_far 1018 c.loop-path.files c.push_found.new.files c.in_ok-found.found c.in_ok-found.ensures.short c.in_ok-push_found.ensures c.loop-path.invariant.short;
  begun = c.in_ok-found.ensures.begun ∙ c.loop-path.invariant.begun;
  quiet = c.in_ok-found.ensures.cause.kept refl ∙ c.loop-path.invariant.quiet;
}

pub returns-clause-told : goal.returns-clause-told
returns-clause-told g c t =
    all_taken c.args.most (codes "stage") c.in_ok-stage.stage c.as_slice-path-items.result.now c.in_ok-paths.paths c.loop-path.path-index c.loop-path.files (g.R.Room.folder c.args.room.now) (g.R.Room.folder c.names.new.self)
    c.loop-path-test.false c.as_slice-path-items.ensures (c.in_ok-stage.ensures ∙ c.as_slice.ensures) (c.in_ok-paths.ensures.told t) (c.in_ok-paths.ensures.same t) (c.loop-path.invariant.told t)
