use Rattle.std.proofs.Common.{◌∙◌, ap}
use Rattle.bulk_base.specs.Text.{is_text}
use Rattle.bulk_base.proofs.TextTests.{is_text-from_IsText}
use Rattle.command_words.proofs.matches.text_of.Goals as goal

pub of-requires : goal.of-requires
of-requires c = ap is_text c.as_bytes.ensures.value ∙ is_text-from_IsText c.args.value.now (c.utf8.value, c.requires)
