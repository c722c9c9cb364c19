use Rattle.std.proofs.Common.{◌≡◌, ◌∙◌, ◌<◌, ap, refl, sym, subst, length, Ok, false, arith}
use Rattle.std.specs.Prelude.{nat_le, not}
use Rattle.std.specs.List.{list_all}
use Rattle.outside.specs.Contents.{Contents}
use Rattle.bulk_model.specs.Facts.{paths_of}
use Rattle.bulk_model.specs.PlanFacts.{is_reserved}
use Rattle.job_files.specs.BaseFiles.{base_folder, with_base_file}
use Rattle.job_files.specs.FileForms.{AddsAtMost}
use Rattle.path_laws.specs.Laws.{rest_of}
use Rattle.job_files.specs.Gathered.{nothing_yet}
use Rattle.job_files.specs.Turns.{in_turn}
use Rattle.job_files.proofs.FileLists.{so_far_begin, so_far_next, tested_next, short_path}
use Rattle.job_files.proofs.Turning.{turn_next}
use Rattle.job_files.proofs.base_files.read_base.Goals as goal

pub loop-path-init : goal.loop-path-init
loop-path-init g c = record {
  told = λ t. ap (λ found. in_turn (with_base_file (g.T.Tree.content c.names.new.self)) found c.as_slice-path-items.result.now) (sym c.nothing_yet-found.ensures);
  form = so_far_begin base_folder c.in_ok-folder.folder c.nothing_yet-found.result.files c.as_slice-path-items.result.now c.in_ok-names.names (ap (λ f. f.files) c.nothing_yet-found.ensures) c.as_slice-path-items.ensures c.in_ok-folder.ensures c.in_ok-names.ensures.listing;
  short = ap (λ f. list_all (λ path. nat_le (length path) 1024) (paths_of f.files)) c.nothing_yet-found.ensures;
  free = ap (λ f. list_all (λ path. not (is_reserved path)) (paths_of f.files)) c.nothing_yet-found.ensures;
  few = omega (arith, ap (λ f. f.bytes) c.nothing_yet-found.ensures);
  same = refl;
  quiet = refl;
}

pub loop-path-preserved : goal.loop-path-preserved
loop-path-preserved g c =
    let content : Contents = g.T.Tree.content c.names.new.self in
    let paths = c.as_slice-path-items.result.now in
    let path = c.path-item.result in
    let within : c.loop-path.path-index < length paths = c.loop-path-test.true in
    let adds : AddsAtMost (rest_of base_folder path) c.loop-path.found.files c.in_ok-found.found.files =
    subst (λ f. AddsAtMost (rest_of f path) c.loop-path.found.files c.in_ok-found.found.files) c.in_ok-folder.ensures c.in_ok-found.ensures.adds in
    record {
      told = λ t.
          let read : with_base_file content c.loop-path.found path ≡ Ok c.in_ok-found.found =
          ap (λ m. with_base_file m c.loop-path.found path) (sym c.loop-path.invariant.same) ∙ c.in_ok-found.ensures.ok t in
          turn_next (with_base_file content) paths c.loop-path.path-index path c.loop-path.found c.in_ok-found.found
          (in_turn (with_base_file content) (nothing_yet c.args.bytes) paths) within c.path-item.is read (c.loop-path.invariant.told t);
      form = so_far_next base_folder paths c.loop-path.path-index path c.loop-path.found.files c.in_ok-found.found.files within c.path-item.is adds c.loop-path.invariant.form;
      short = tested_next (λ p. nat_le (length p) 1024) (rest_of base_folder path) c.loop-path.found.files c.in_ok-found.found.files (λ l. short_path 1024 (rest_of base_folder path) (omega arith) l) adds c.loop-path.invariant.short;
      free = tested_next (λ p. not (is_reserved p)) (rest_of base_folder path) c.loop-path.found.files c.in_ok-found.found.files
          (λ l. ap not (subst (λ f. is_reserved (rest_of f path) ≡ false) c.in_ok-folder.ensures c.in_ok-found.ensures.free)) adds c.loop-path.invariant.free;
      few = c.in_ok-found.ensures.few;
      same = c.in_ok-found.ensures.same ∙ c.loop-path.invariant.same;
      quiet = c.in_ok-found.ensures.cause.kept refl ∙ c.loop-path.invariant.quiet;
    }
