use Rattle.std.proofs.Common.{◌∙◌}
use Rattle.bulk_model.specs.Views.{PackageView}
use Rattle.stale_check.specs.Placing.{no_member}
use Rattle.stale_check.proofs.Keying.{keyed_none, keyed_at}
use Rattle.stale_check.proofs.numbering.place_packages.Goals as goal

pub loop-at-init : goal.loop-at-init
loop-at-init c = keyed_none (λ (p : PackageView). p.name) c.new-places.result c.new-places.ensures

pub loop-at-preserved : goal.loop-at-preserved
loop-at-preserved c =
    keyed_at (λ (p : PackageView). p.name) c.args.members.now c.loop-at.at no_member c.in_ok-copy.field-0 c.loop-at.places c.put_new.new.numbers c.loop-at-test.true
    (c.in_ok-copy.ensures ∙ c.name.ensures) c.loop-at.invariant c.in_ok-put_new.ensures
