use Rattle.bulk_base.proofs.TextTests.{is_text-plain}
use Rattle.bulk_base.proofs.path.Path.literal.Goals as goal

pub of-requires-clause-text : goal.of-requires-clause-text
of-requires-clause-text c = is_text-plain _ c.requires.text
