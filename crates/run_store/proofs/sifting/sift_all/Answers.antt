use Rattle.std.proofs.Common.{ap, sym, subst, ◌∙◌}
use Rattle.bulk_model.specs.Fit.{FitsKept}
use Rattle.stale_check.specs.Kept.{kept_among}
use Rattle.run_store.proofs.Staying.{none_fits}
use Rattle.run_store.proofs.sifting.sift_all.Goals as goal

pub returns-clause-fits : goal.returns-clause-fits
returns-clause-fits g c =
    subst (λ kept. FitsKept c.args.plan.now kept) (sym (c.in_ok-keep_among.ensures ∙ ap (kept_among c.args.plan.now) c.new-left.ensures)) (none_fits c.args.plan.now)
