use Rattle.std.proofs.Common.{◌∙◌, sym, ap}
use Rattle.bulk_base.proofs.Digits.{number_parses}
use Rattle.bulk_base.specs.Number.{number_of, is_number}
use Rattle.bulk_base.proofs.numeral.number.Goals as goal

pub returns-then-is_number : goal.returns-then-is_number
returns-then-is_number c =
    c.ok.ensures.value ∙ number_parses c.as_str.result.now _ c.parse.ensures.value.0 (ap is_number c.as_str.ensures.same ∙ ap is_number (sym c.bytes.ensures.same) ∙ sym c.is_number.ensures ∙ c.if-is_number.true) ∙ ap number_of c.as_str.ensures.same
