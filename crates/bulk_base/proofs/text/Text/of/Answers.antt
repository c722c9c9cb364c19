use Rattle.std.proofs.Common.{◌∙◌, ap, Err}
use Rattle.bulk_base.proofs.TextTests.{IsText-from_is_text}
use Rattle.bulk_base.proofs.text.Text.of.Goals as goal

pub unreachable-requires : goal.unreachable-requires
unreachable-requires c = c.from_bytes.ensures.not_text.0 (c.in-Err-NotText.is ∙ ap Err c.in-Err-NotText.field-0-is) (IsText-from_is_text _ c.requires)
