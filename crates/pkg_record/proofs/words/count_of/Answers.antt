use Rattle.std.proofs.Common.{◌∙◌, sym}
use Rattle.pkg_record.proofs.Numerals.{count_parses, numeral_is_utf8}
use Rattle.pkg_record.proofs.words.count_of.Goals as goal

pub returns-in_default : goal.returns-in_default
returns-in_default c = absurd (c.in_default.ensures.cases.0 (numeral_is_utf8 c.args.digits.now (sym c.is_numeral.ensures ∙ c.if-not-is_numeral.false)))

pub returns : goal.returns
returns c =
    c.ok.ensures.value ∙ count_parses c.args.digits.now c.in-Ok.text.now _ c.in-Ok.ensures.cases.0 c.parse.ensures.value.0 (sym c.is_numeral.ensures ∙ c.if-not-is_numeral.false)
