use Rattle.std.proofs.Common.{◌≡◌, ◌≤◌, ◌∙◌, ap, sym, subst, length, arith}
use Rattle.std.specs.Prelude.{None}
use Rattle.bulk_base.specs.Names.{IsPackageName}
use Rattle.port_name.specs.Package.{name_of, bad_part}
use Rattle.port_name.proofs.Spelled.{name_in_form}
use Rattle.port_name.proofs.package.pkgname.Goals as goal

pub returns-clause-form : goal.returns-clause-form
returns-clause-form c =
    let parts = c.args.parts.now in
    let none : bad_part parts ≡ None = search Rattle.std.proofs.Common.rules in
    let short : length (name_of parts) ≤ 200 = omega (arith, c.name_length.ensures, c.if-name_length-gt200.false) in
    subst IsPackageName (sym c.in_ok-name_in_form.ensures) (name_in_form parts none short)
