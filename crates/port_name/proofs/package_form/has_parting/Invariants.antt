use Rattle.std.proofs.Common.{◌≡◌, false}
use Rattle.port_name.specs.PackageForm.{is_parted_at, some_below}
use Rattle.port_name.proofs.package_form.has_parting.Given as goal

abbrev pub invariant-loop-place : goal.invariant-loop-place
invariant-loop-place l = some_below (is_parted_at l.text) l.place ≡ false
