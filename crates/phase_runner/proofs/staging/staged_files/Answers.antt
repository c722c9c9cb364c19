use Rattle.std.proofs.Common.{◌≡◌, ◌+◌, ◌++◌, true, length, drop, map, ◌∙◌, ap, subst, sym, refl, arith, codes}
use Rattle.std.specs.Prelude.{nat_le}
use Rattle.std.specs.List.{filter_map, list_all}
use Rattle.bulk_model.specs.Facts.{paths_of}
use Rattle.bulk_model.specs.Files.{file_at}
use Rattle.bulk_model.specs.Weight.{weight_of}
use Rattle.outside.specs.Contents.{files_below}
use Rattle.path_laws.specs.Laws.{IsPathList, rest_of}
use Rattle.phase_runner.specs.Staged.{taken_of, IfTaken, IsTakenFile}
use Rattle.phase_runner.proofs.Cutting.{gone_is_none, file_is_some}
use Rattle.phase_runner.proofs.Gathering.{one_added, none_added, form_without, form_with, short_with, form_at_start, form_at_end, weight_with, all_light, stopped}
use Rattle.phase_runner.proofs.staging.staged_files.Goals.{in-Gone, in-File+in_ok-push-in-File}
use Rattle.phase_runner.proofs.staging.staged_files.Goals as goal

pub loop-path-init : goal.loop-path-init
loop-path-init g c = record {
  told = λ t. ap (λ files. files ++ filter_map (file_at (codes "stage") (g.R.Room.folder c.names.new.self)) c.as_slice-path-items.result.now) c.new-files.ensures;
  same = λ t. refl;
  sum = ap (λ files. 524288 + weight_of files) c.new-files.ensures;
  form = form_at_start (codes "stage") c.in_ok-stage.stage c.new-files.result c.as_slice-path-items.result.now c.in_ok-paths.paths c.new-files.ensures c.as_slice-path-items.ensures (c.in_ok-stage.ensures ∙ c.as_slice.ensures) c.in_ok-paths.ensures.listing;
  short = ap (λ files. list_all (λ path. nat_le (length path) 1018) (paths_of files)) c.new-files.ensures;
  begun = refl;
  quiet = refl;
}

pub returns-in-TooHeavy-clause-told : goal.returns-in-TooHeavy-clause-told
returns-in-TooHeavy-clause-told g c t =
    let old = g.R.Room.folder c.names.new.self in
    let here = c.in_ok-take_file.ensures.told t ∙ ap (λ m. taken_of c.loop-path.left (file_at (codes "stage") m c.path-item.result)) (c.loop-path.invariant.same t) in
    let all = c.loop-path.invariant.told t
    ∙ ap (filter_map (file_at (codes "stage") old)) (c.as_slice-path-items.ensures ∙ c.in_ok-paths.ensures.told t)
    ∙ (λ k. filter_map (file_at (codes "stage") (c.in_ok-paths.ensures.same t k)) (files_below ((c.in_ok-stage.ensures ∙ c.as_slice.ensures) k) (g.R.Room.folder c.args.room.now))) in
    stopped (file_at (codes "stage") old) c.as_slice-path-items.result.now c.loop-path.path-index c.path-item.result c.loop-path.files _ c.loop-path.left c.loop-path-test.true c.path-item.is (sym c.in-TooHeavy.is ∙ here) c.loop-path.invariant.sum all

pub loop-path-preserved : goal.loop-path-preserved
loop-path-preserved g c = elim c.match-branch-4.branch [
  | in-Gone w ↦
      let files = w.files-is in
      record {
        told = λ t.
            let none = gone_is_none c.loop-path.left (file_at (codes "stage") (g.R.Room.folder c.names.new.self) c.path-item.result)
            (sym w.in-Gone.is ∙ c.in_ok-take_file.ensures.told t ∙ ap (λ m. taken_of c.loop-path.left (file_at (codes "stage") m c.path-item.result)) (c.loop-path.invariant.same t)) in
            ap (λ fs. fs ++ filter_map (file_at (codes "stage") (g.R.Room.folder c.names.new.self)) (drop (c.loop-path.path-index + 1) c.as_slice-path-items.result.now)) files
            ∙ none_added (file_at (codes "stage") (g.R.Room.folder c.names.new.self)) c.as_slice-path-items.result.now c.loop-path.path-index c.path-item.result c.loop-path.files c.loop-path-test.true c.path-item.is none
            ∙ c.loop-path.invariant.told t;
        same = λ t. c.in_ok-take_file.ensures.same t ∙ c.loop-path.invariant.same t;
        sum = (λ k. w.left-is k + weight_of (files k)) ∙ c.loop-path.invariant.sum;
        form = subst (λ fs. IsPathList (paths_of fs ++ map (rest_of (codes "stage")) (drop (c.loop-path.path-index + 1) c.as_slice-path-items.result.now))) (sym files)
            (form_without (codes "stage") c.as_slice-path-items.result.now c.loop-path.path-index c.path-item.result c.loop-path.files c.loop-path-test.true c.path-item.is c.loop-path.invariant.form);
        short = ap (λ fs. list_all (λ path. nat_le (length path) 1018) (paths_of fs)) files ∙ c.loop-path.invariant.short;
        begun = c.in_ok-take_file.ensures.begun ∙ c.loop-path.invariant.begun;
        quiet = c.in_ok-take_file.ensures.cause.kept refl ∙ c.loop-path.invariant.quiet;
      }
  | in-File+in_ok-push-in-File w ↦
      let files = w.files-is ∙ w.in_ok-push-in-File.ensures.ok in
      let form : IsTakenFile c.loop-path.left c.path-item.result w.in-File.file = subst (λ taken. IfTaken taken (IsTakenFile c.loop-path.left c.path-item.result)) w.in-File.is c.in_ok-take_file.ensures.form in
      record {
        told = λ t.
            let some = file_is_some c.loop-path.left w.in-File.file (file_at (codes "stage") (g.R.Room.folder c.names.new.self) c.path-item.result)
            (sym w.in-File.is ∙ c.in_ok-take_file.ensures.told t ∙ ap (λ m. taken_of c.loop-path.left (file_at (codes "stage") m c.path-item.result)) (c.loop-path.invariant.same t)) in
            one_added (file_at (codes "stage") (g.R.Room.folder c.names.new.self)) c.as_slice-path-items.result.now c.loop-path.path-index c.path-item.result w.in-File.file c.loop-path.files c.match-branch-4.files
            c.loop-path-test.true c.path-item.is some files
            ∙ c.loop-path.invariant.told t;
        same = λ t. c.in_ok-take_file.ensures.same t ∙ c.loop-path.invariant.same t;
        sum = omega (arith, w.left-is, w.weight-left.ensures, form.fits, c.loop-path.invariant.sum, weight_with w.in-File.file c.loop-path.files c.match-branch-4.files files);
        form = form_with (codes "stage") c.as_slice-path-items.result.now c.loop-path.path-index c.path-item.result w.in-File.file c.loop-path.files c.match-branch-4.files
            c.loop-path-test.true c.path-item.is form.path_is files c.loop-path.invariant.form;
        short = short_with 1018 w.in-File.file c.loop-path.files c.match-branch-4.files form.short files c.loop-path.invariant.short;
        begun = c.in_ok-take_file.ensures.begun ∙ c.loop-path.invariant.begun;
        quiet = c.in_ok-take_file.ensures.cause.kept refl ∙ c.loop-path.invariant.quiet;
      }
]
