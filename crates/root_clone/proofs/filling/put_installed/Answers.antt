use Rattle.std.proofs.Common.{◌≡◌, true, length, ◌∙◌, subst, sym, refl, rules, arith, codes}
use Rattle.std.specs.Prelude.{nat_le}
use Rattle.std.specs.List.{list_all}
use Rattle.bulk_model.specs.Facts.{paths_of}
use Rattle.root_clone.proofs.Taken.{free_in_loop, free_after, all_after}
use Rattle.root_clone.proofs.Rooms.{fit_below}
use Rattle.root_clone.proofs.filling.put_installed.Goals as goal

pub put_below-requires-clause-free : goal.put_below-requires-clause-free
put_below-requires-clause-free g c t =
    free_in_loop (codes "local") c.args.packages.now c.loop-package.package-index c.package-item.result c.in_ok-local.local c.as_slice-in-loop-package.result.now (g.R.Room.folder c.loop-package.room)
    c.loop-package-test.true c.package-item.is (c.in_ok-local.ensures ∙ c.as_slice.ensures) (search rules) (c.loop-package.invariant.free t)

pub put_below-requires-clause-short : goal.put_below-requires-clause-short
put_below-requires-clause-short g c =
    fit_below (codes "local") c.in_ok-local.local 1018 c.as_slice-in-loop-package.result.now (c.in_ok-local.ensures ∙ c.as_slice.ensures) (omega arith)
    (subst (λ files. list_all (λ path. nat_le (length path) 1018) (paths_of files) ≡ true) (sym c.as_slice-in-loop-package.ensures) c.behind-package.invariant.files.short)

pub loop-package-preserved : goal.loop-package-preserved
loop-package-preserved g c = record {
  free = λ t.
      free_after (codes "local") c.args.packages.now c.loop-package.package-index c.package-item.result c.in_ok-local.local c.as_slice-in-loop-package.result.now (g.R.Room.folder c.loop-package.room) (g.R.Room.folder c.put_below.new.room)
      c.loop-package-test.true c.package-item.is (c.in_ok-local.ensures ∙ c.as_slice.ensures) (search rules) (c.in_ok-put_below.ensures.told t) (c.loop-package.invariant.free t);
  told = λ t.
      all_after (codes "local") c.args.packages.now c.loop-package.package-index c.package-item.result c.in_ok-local.local c.as_slice-in-loop-package.result.now (g.R.Room.folder c.loop-package.room) (g.R.Room.folder c.put_below.new.room)
      c.loop-package-test.true c.package-item.is (c.in_ok-local.ensures ∙ c.as_slice.ensures) (search rules) (c.in_ok-put_below.ensures.told t) ∙ c.loop-package.invariant.told t;
  begun = c.in_ok-put_below.ensures.begun ∙ c.loop-package.invariant.begun;
  quiet = c.in_ok-put_below.ensures.cause.kept refl ∙ c.loop-package.invariant.quiet;
}
