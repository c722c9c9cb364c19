use Rattle.bulk_base.proofs.TextTests.{is_text-from_IsText}
use Rattle.option_set.proofs.read.words_at.Goals as goal

pub of-requires : goal.of-requires
of-requires c = is_text-from_IsText c.args.variable.now c.requires
