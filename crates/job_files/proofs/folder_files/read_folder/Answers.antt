use Rattle.std.proofs.Common.{◌≡◌, ◌∙◌, ◌<◌, ap, refl, sym, length, Ok, arith}
use Rattle.std.specs.Prelude.{nat_le}
use Rattle.outside.specs.Contents.{Contents}
use Rattle.path_laws.specs.Laws.{rest_of}
use Rattle.job_files.specs.FolderFiles.{with_file}
use Rattle.job_files.specs.Gathered.{nothing_yet}
use Rattle.job_files.specs.Turns.{in_turn}
use Rattle.bulk_model.specs.Facts.{paths_of}
use Rattle.std.specs.List.{list_all}
use Rattle.job_files.proofs.FileLists.{so_far_begin, so_far_next, tested_next, short_path}
use Rattle.job_files.proofs.Turning.{turn_next}
use Rattle.job_files.proofs.folder_files.read_folder.Goals as goal

pub loop-path-init : goal.loop-path-init
loop-path-init g c = record {
  told = λ t. ap (λ found. in_turn (with_file c.args.folder.now (g.T.Tree.content c.names.new.self)) found c.as_slice-path-items.result.now) (sym c.nothing_yet-found.ensures);
  form = so_far_begin c.args.folder.now c.args.folder.now c.nothing_yet-found.result.files c.as_slice-path-items.result.now c.in_ok-names.names (ap (λ f. f.files) c.nothing_yet-found.ensures) c.as_slice-path-items.ensures refl c.in_ok-names.ensures.listing;
  short = ap (λ f. list_all (λ path. nat_le (length path) 1019) (paths_of f.files)) c.nothing_yet-found.ensures;
  few = omega (arith, ap (λ f. f.bytes) c.nothing_yet-found.ensures);
  same = refl;
  quiet = refl;
}

pub loop-path-preserved : goal.loop-path-preserved
loop-path-preserved g c =
    let content : Contents = g.T.Tree.content c.names.new.self in
    let folder = c.args.folder.now in
    let paths = c.as_slice-path-items.result.now in
    let path = c.path-item.result in
    let within : c.loop-path.path-index < length paths = c.loop-path-test.true in
    record {
      told = λ t.
          let read : with_file folder content c.loop-path.found path ≡ Ok c.in_ok-found.found =
          ap (λ m. with_file folder m c.loop-path.found path) (sym c.loop-path.invariant.same) ∙ c.in_ok-found.ensures.ok t in
          turn_next (with_file folder content) paths c.loop-path.path-index path c.loop-path.found c.in_ok-found.found
          (in_turn (with_file folder content) (nothing_yet c.args.bytes) paths) within c.path-item.is read (c.loop-path.invariant.told t);
      form = so_far_next folder paths c.loop-path.path-index path c.loop-path.found.files c.in_ok-found.found.files within c.path-item.is c.in_ok-found.ensures.adds c.loop-path.invariant.form;
      short = tested_next (λ p. nat_le (length p) 1019) (rest_of folder path) c.loop-path.found.files c.in_ok-found.found.files (λ l. short_path 1019 (rest_of folder path) (omega arith) l) c.in_ok-found.ensures.adds c.loop-path.invariant.short;
      few = c.in_ok-found.ensures.few;
      same = c.in_ok-found.ensures.same ∙ c.loop-path.invariant.same;
      quiet = c.in_ok-found.ensures.cause.kept refl ∙ c.loop-path.invariant.quiet;
    }
