use Rattle.std.proofs.Common.{◌∙◌, ap, arith}
use Rattle.hex.specs.Hex.{IsBytes}
use Rattle.bulk_base.specs.Text.{is_text}
use Rattle.bulk_model.proofs.Digits.{is_text-hex}
use Rattle.bulk_model.proofs.digest.digits_of.Goals as goal

pub of-requires : goal.of-requires
of-requires c =
    let bytes : IsBytes c.args.bytes.now = λ i. let f = c.type_inv.bytes i in omega arith in
    ap is_text (c.as_bytes.ensures.value ∙ c.as_str.ensures.value ∙ c.in_ok-digits.ensures) ∙ is_text-hex c.args.bytes.now bytes
