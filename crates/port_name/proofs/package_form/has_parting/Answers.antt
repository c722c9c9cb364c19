use Rattle.std.proofs.Common.{◌∙◌, sym, length}
use Rattle.port_name.specs.PackageForm.{is_parted_at}
use Rattle.port_name.proofs.Parting.{some_below-at, some_below-next}
use Rattle.port_name.proofs.package_form.has_parting.Goals as goal

pub returns-then-is_parted_at : goal.returns-then-is_parted_at
returns-then-is_parted_at c =
    sym (some_below-at (is_parted_at c.args.text.now) (length c.args.text.now) c.loop-place.place c.loop-place-test.true (sym c.is_parted_at.ensures ∙ c.if-is_parted_at.true))

pub loop-place-preserved : goal.loop-place-preserved
loop-place-preserved c =
    some_below-next (is_parted_at c.args.text.now) c.loop-place.place c.loop-place.invariant (sym c.is_parted_at.ensures ∙ c.if-is_parted_at.false)
