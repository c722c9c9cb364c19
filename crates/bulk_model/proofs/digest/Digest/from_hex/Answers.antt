use Rattle.std.proofs.Common.{ap, sym, ◌∙◌}
use Rattle.hex.specs.Hex.{encode_lower, decode_sized}
use Rattle.bulk_model.proofs.Digits.{decoded, told, is_no_error}
use Rattle.bulk_model.proofs.digest.Digest.from_hex.Goals as goal

pub returns-in-Ok-clause-some : goal.returns-in-Ok-clause-some
returns-in-Ok-clause-some c =
    let d = decoded c.args.text.now (sym c.if-not-is_digest.ensures) in
    ap encode_lower (told (decode_sized c.args.text.now 32) d.0 c.decode_to_slice.result c.decode_to_slice.new.out d.1 c.decode_to_slice.ensures.value).1 ∙ d.2

pub returns-in-Err-clause-none : goal.returns-in-Err-clause-none
returns-in-Err-clause-none c =
    let d = decoded c.args.text.now (sym c.if-not-is_digest.ensures) in
    absurd (is_no_error c.decode_to_slice.result c.in-Err.field-0 (told (decode_sized c.args.text.now 32) d.0 c.decode_to_slice.result c.decode_to_slice.new.out d.1 c.decode_to_slice.ensures.value).0 c.in-Err.is)
