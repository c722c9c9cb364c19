use Rattle.bulk_base.proofs.TextTests.{is_text-from_IsText}
use Rattle.moved_list.proofs.entry.entry.Goals as goal

pub of-requires : goal.of-requires
of-requires c = is_text-from_IsText c.before_bar.result.now (c.before_bar.ensures.text c.requires)

pub of-requires-2 : goal.of-requires-2
of-requires-2 c = is_text-from_IsText c.before_bar-3.result.now (c.before_bar-3.ensures.text (c.behind_bar-last.ensures.text (c.behind_bar-behind.ensures.text c.requires)))

pub of-requires-3 : goal.of-requires-3
of-requires-3 c = is_text-from_IsText c.behind_bar.result.now (c.behind_bar.ensures.text (c.behind_bar-last.ensures.text (c.behind_bar-behind.ensures.text c.requires)))
