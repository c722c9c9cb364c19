use Rattle.std.proofs.Common.{◌∙◌, ap}
use Rattle.bulk_base.proofs.TextBytes.{has_text_bytes-piece}
use Rattle.bulk_base.specs.Text.{has_text_bytes}
use Rattle.bulk_base.proofs.text.Text.piece.Goals as goal

pub invariant_of-result : goal.invariant_of-result
invariant_of-result c =
    has_text_bytes-piece _ c.as_str.result.now c.args.from c.args.to (c.in_ok-from_str.ensures.ok ∙ c.range.ensures.value)
    (ap has_text_bytes c.as_str.ensures.value ∙ c.self.invariant)
