use Rattle.std.proofs.Common.{◌≡◌, ◌∙◌, ap, refl, length, ◌≤◌}
use Rattle.std.specs.Prelude.{nat_le}
use Rattle.std.specs.List.{list_all}
use Rattle.bulk_model.specs.Facts.{paths_of}
use Rattle.bulk_model.specs.Files.{file_at}
use Rattle.one_port.specs.NodeJobs.{is_large}
use Rattle.one_port.proofs.Staged.{found_in_loop, form_in_loop, short_so_far, form_at_start}
use Rattle.one_port.proofs.PathLists.{rest_of}
use Rattle.one_port.proofs.TakenFiles.{small_so_far, first_large, none_taken, some_taken, some_fact, large_at_end, whole_at_end, form_at_end}
use Rattle.one_port.proofs.port_files.read_files.Goals as goal

pub loop-path-init : goal.loop-path-init
loop-path-init g c = record {
  told = λ t. c.new-files.ensures;
  small = λ t. refl;
  form = form_at_start c.args.folder.now c.args.folder.now c.new-files.result c.as_slice-path-items.result.now c.in_ok-names.names c.new-files.ensures c.as_slice-path-items.ensures refl c.in_ok-names.ensures.listing;
  short = ap (λ files. list_all (λ path. nat_le (length path) 1019) (paths_of files)) c.new-files.ensures;
  same = refl;
  quiet = refl;
}

pub returns-in-None-clause-told : goal.returns-in-None-clause-told
returns-in-None-clause-told g c t =
    large_at_end (g.T.Tree.content c.names.new.self) (g.T.Tree.content c.args.tree.now) c.args.folder.now c.as_slice-path-items.result.now c.in_ok-names.names c.path-item.result c.in_ok-copy-in-None.field-0
    c.in_ok-names.ensures.same c.as_slice-path-items.ensures (c.in_ok-names.ensures.told t) (c.in_ok-copy-in-None.ensures ∙ c.text.ensures.same)
    (first_large (is_large (g.T.Tree.content c.names.new.self)) c.as_slice-path-items.result.now c.loop-path.path-index c.path-item.result c.loop-path-test.true c.path-item.is
    (none_taken (g.T.Tree.content c.loop-path.tree) (g.T.Tree.content c.names.new.self) c.args.folder.now c.path-item.result c.in_ok-taken.taken c.loop-path.invariant.same c.in-None.is (c.in_ok-taken.ensures.told t))
    (c.loop-path.invariant.small t))

pub loop-path-preserved : goal.loop-path-preserved
loop-path-preserved g c = record {
  told = λ t.
      found_in_loop (file_at c.args.folder.now (g.T.Tree.content c.names.new.self)) c.as_slice-path-items.result.now c.loop-path.path-index c.path-item.result c.loop-path.files c.push_found.new.files c.in-Some.found
      c.loop-path-test.true c.path-item.is (c.loop-path.invariant.told t)
      (some_taken (g.T.Tree.content c.loop-path.tree) (g.T.Tree.content c.names.new.self) c.args.folder.now c.path-item.result c.in_ok-taken.taken c.in-Some.found c.loop-path.invariant.same c.in-Some.is (c.in_ok-taken.ensures.told t)).1
      c.in_ok-push_found-in-Some.ensures;
  small = λ t.
      small_so_far (is_large (g.T.Tree.content c.names.new.self)) c.as_slice-path-items.result.now c.loop-path.path-index c.path-item.result c.loop-path-test.true c.path-item.is
      (some_taken (g.T.Tree.content c.loop-path.tree) (g.T.Tree.content c.names.new.self) c.args.folder.now c.path-item.result c.in_ok-taken.taken c.in-Some.found c.loop-path.invariant.same c.in-Some.is (c.in_ok-taken.ensures.told t)).0
      (c.loop-path.invariant.small t);
  form =
      form_in_loop c.args.folder.now c.as_slice-path-items.result.now c.loop-path.path-index c.path-item.result c.loop-path.files c.push_found.new.files c.in-Some.found
      c.loop-path-test.true c.path-item.is (some_fact (λ f. f.path ≡ rest_of c.args.folder.now c.path-item.result) c.in_ok-taken.taken c.in-Some.found c.in-Some.is c.in_ok-taken.ensures.path) c.in_ok-push_found-in-Some.ensures c.loop-path.invariant.form;
  short = short_so_far 1019 c.loop-path.files c.push_found.new.files c.in-Some.found (some_fact (λ f. length f.path ≤ 1019) c.in_ok-taken.taken c.in-Some.found c.in-Some.is c.in_ok-taken.ensures.short) c.in_ok-push_found-in-Some.ensures c.loop-path.invariant.short;
  same = c.in_ok-taken.ensures.same ∙ c.loop-path.invariant.same;
  quiet = c.in_ok-taken.ensures.cause.kept refl ∙ c.loop-path.invariant.quiet;
}

pub returns-clause-told : goal.returns-clause-told
returns-clause-told g c t =
    whole_at_end (g.T.Tree.content c.names.new.self) (g.T.Tree.content c.args.tree.now) c.args.folder.now c.as_slice-path-items.result.now c.in_ok-names.names c.loop-path.path-index c.loop-path.files
    c.loop-path-test.false c.in_ok-names.ensures.same c.as_slice-path-items.ensures (c.in_ok-names.ensures.told t) (c.loop-path.invariant.small t) (c.loop-path.invariant.told t)

pub returns-clause-form : goal.returns-clause-form
returns-clause-form g c = form_at_end c.args.folder.now c.as_slice-path-items.result.now c.loop-path.path-index c.loop-path.files c.loop-path-test.false c.loop-path.invariant.form c.loop-path.invariant.short
