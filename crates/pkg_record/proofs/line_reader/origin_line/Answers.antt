use Rattle.std.proofs.Common.{◌∙◌, sym, subst}
use Rattle.bulk_base.specs.Names.{IsOrigin}
use Rattle.pkg_record.proofs.Names.{origin_form, origin_plain, is_text-visible}
use Rattle.pkg_record.proofs.line_reader.origin_line.Goals as goal

pub of-requires : goal.of-requires
of-requires c = is_text-visible c.in-Some.origin.now (origin_plain c.in-Some.origin.now (sym c.is_origin.ensures.test ∙ c.if-not-is_origin.false))

pub returns-clause-form : goal.returns-clause-form
returns-clause-form c = subst IsOrigin (sym c.in_ok-of.ensures) (origin_form c.in-Some.origin.now (sym c.is_origin.ensures.test ∙ c.if-not-is_origin.false))
