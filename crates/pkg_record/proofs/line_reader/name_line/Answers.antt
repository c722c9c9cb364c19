use Rattle.std.proofs.Common.{◌∙◌, sym, subst}
use Rattle.bulk_base.specs.Names.{IsPackageName}
use Rattle.pkg_record.proofs.Names.{package_name_form, package_name_plain, is_text-visible}
use Rattle.pkg_record.proofs.line_reader.name_line.Goals as goal

pub of-requires : goal.of-requires
of-requires c = is_text-visible c.in-Some.name.now (package_name_plain c.in-Some.name.now (sym c.is_package_name.ensures ∙ c.if-not-is_package_name.false))

pub returns-clause-form : goal.returns-clause-form
returns-clause-form c = subst IsPackageName (sym c.in_ok-of.ensures) (package_name_form c.in-Some.name.now (sym c.is_package_name.ensures ∙ c.if-not-is_package_name.false))
