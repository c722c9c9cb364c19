use Rattle.bulk_base.proofs.TextTests.{is_text-plain}
use Rattle.bulk_base.proofs.text.Text.literal.Goals as goal

pub of-requires : goal.of-requires
of-requires c = is_text-plain _ c.requires
