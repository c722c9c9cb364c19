use Rattle.std.proofs.Common.{◌≡◌, true, length, ◌∙◌, subst, sym, arith, codes}
use Rattle.std.specs.Prelude.{nat_le}
use Rattle.std.specs.List.{list_all}
use Rattle.bulk_model.specs.Facts.{paths_of}
use Rattle.root_clone.proofs.Rooms.{fit_below}
use Rattle.root_clone.proofs.filling.put_work.Goals as goal

pub put_below-requires-clause-short : goal.put_below-requires-clause-short
put_below-requires-clause-short g c =
    fit_below (codes "work") c.in_ok-work.work 1019 c.as_slice-2.result.now (c.in_ok-work.ensures ∙ c.as_slice.ensures) (omega arith)
    (subst (λ files. list_all (λ path. nat_le (length path) 1019) (paths_of files) ≡ true) (sym c.as_slice-2.ensures) c.job.invariant.files.short)
